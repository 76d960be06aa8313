-- `put_response` meets its contract.
-- Assumes nothing.
use Rattle.std.proofs.Common.{◌≡◌, ◌*◌, arith, length-set}
use Rattle.events.proofs.ToldWords.{response_over}
use Rattle.events.proofs.answer_words.put_response.Goals as goal

pub bounds-out-8 : goal.bounds-out-8
bounds-out-8 c = simp length-set (omega (arith, c.requires))

pub bounds-out-9 : goal.bounds-out-9
bounds-out-9 c = simp length-set (omega (arith, c.requires))

pub bounds-out-10 : goal.bounds-out-10
bounds-out-10 c = simp length-set (omega (arith, c.requires))

pub returns : goal.returns
returns c =
    let second : c.word-2.result ≡ c.args.octet2 * 256 = omega (arith, c.word-2.ensures) in
    rw (c.from.ensures, c.word.ensures, second) (response_over _ _ _ _ _ (c.put_done.ensures))
