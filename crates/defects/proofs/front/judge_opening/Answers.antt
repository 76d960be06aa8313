-- `defects::front::judge_opening` meets its contract: each test is a row.
-- Assumes nothing.
use borrow.Author.Rules.{rules}
use Rattle.defects.specs.Judging.{opening_tests}
use Rattle.defects.proofs.Offences.{judged, passed_on}
use Rattle.defects.proofs.front.judge_opening.Goals as goal

pub returns-in_err-refuse_if : goal.returns-in_err-refuse_if
unfolding opening_tests
returns-in_err-refuse_if c = search (rules, passed_on, judged) depth 20 fits 4000

pub returns-in_err-refuse_if-2 : goal.returns-in_err-refuse_if-2
unfolding opening_tests
returns-in_err-refuse_if-2 c = search (rules, passed_on, judged) depth 20 fits 4000

pub returns-in_err-refuse_if-3 : goal.returns-in_err-refuse_if-3
unfolding opening_tests
returns-in_err-refuse_if-3 c = search (rules, passed_on, judged) depth 20 fits 4000

pub returns-in_err-refuse_if-4 : goal.returns-in_err-refuse_if-4
unfolding opening_tests
returns-in_err-refuse_if-4 c = search (rules, passed_on, judged) depth 20 fits 4000

pub returns-in_err-refuse_if-5 : goal.returns-in_err-refuse_if-5
unfolding opening_tests
returns-in_err-refuse_if-5 c = search (rules, passed_on, judged) depth 20 fits 4000

pub returns : goal.returns
unfolding opening_tests
returns c = search (rules, passed_on, judged) depth 20 fits 4000
