-- The kind of a number is the one that the definition gives it.
-- Assumes nothing.
use borrow.Author.Tests.{ne_eqb}
use Rattle.laws.specs.Pick.{pick}
use Rattle.parts.specs.Kind.{kind_of}
use Rattle.parts.proofs.kind.KindFromU8.from.Goals as goal

pub returns-in-1 : goal.returns-in-1
unfolding kind_of pick
returns-in-1 c = rw c.in-1.is

pub returns-in-2 : goal.returns-in-2
unfolding kind_of pick
returns-in-2 c = rw c.in-2.is

pub returns-in-3 : goal.returns-in-3
unfolding kind_of pick
returns-in-3 c = rw c.in-3.is

pub returns-in-4 : goal.returns-in-4
unfolding kind_of pick
returns-in-4 c = rw c.in-4.is

pub returns-in-5 : goal.returns-in-5
unfolding kind_of pick
returns-in-5 c = rw c.in-5.is

pub returns-in-6 : goal.returns-in-6
unfolding kind_of pick
returns-in-6 c = rw c.in-6.is

pub returns-in-7 : goal.returns-in-7
unfolding kind_of pick
returns-in-7 c = rw c.in-7.is

pub returns-in-8 : goal.returns-in-8
unfolding kind_of pick
returns-in-8 c = rw c.in-8.is

pub returns-in-9 : goal.returns-in-9
unfolding kind_of pick
returns-in-9 c = rw c.in-9.is

pub returns-in-10 : goal.returns-in-10
unfolding kind_of pick
returns-in-10 c = rw c.in-10.is

pub returns-in_default : goal.returns-in_default
unfolding kind_of pick
returns-in_default c =
    let none = c.in_default.in_default-own.rest in
    rw (ne_eqb _ 1 none.0.0.0.0.0.0.0.0.0.1, ne_eqb _ 2 none.0.0.0.0.0.0.0.0.1, ne_eqb _ 3 none.0.0.0.0.0.0.0.1, ne_eqb _ 4 none.0.0.0.0.0.0.1, ne_eqb _ 5 none.0.0.0.0.0.1, ne_eqb _ 6 none.0.0.0.0.1, ne_eqb _ 7 none.0.0.0.1, ne_eqb _ 8 none.0.0.1, ne_eqb _ 9 none.0.1, ne_eqb _ 10 none.1)
