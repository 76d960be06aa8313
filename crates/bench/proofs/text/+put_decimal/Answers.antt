-- `bench::text::put_decimal` meets its contract: one digit, or the digits of the tenth and one more.
-- Assumes nothing.
use Rattle.std.proofs.Common.{ap, arith, length, length-append, append_assoc}
use Rattle.bench.proofs.Digits.{one_digit, more_digits, tenth_size}
use Rattle.bench.proofs.text.+put_decimal.Goals as goal

pub push-requires : goal.push-requires
push-requires t c = omega (arith, c.requires, ap length (one_digit c.args.n c.if-n-lt10.true))

pub returns-then-n-lt10 : goal.returns-then-n-lt10
returns-then-n-lt10 t c = rw (one_digit _ c.if-n-lt10.true, ← c.decimal_digit.ensures) c.push.ensures.items

pub put_decimal-requires : goal.put_decimal-requires
put_decimal-requires t c = (omega (arith, c.decreases), omega (arith, c.requires, tenth_size c.args.n c.if-n-lt10.false))

pub push-requires-2 : goal.push-requires-2
push-requires-2 t c = simp (c.put_decimal.ensures, length-append) (omega (arith, c.requires, tenth_size c.args.n c.if-n-lt10.false))

pub returns : goal.returns
returns t c = rw (more_digits _ c.if-n-lt10.false, ← c.decimal_digit-2.ensures) (simp (c.push-2.ensures.items, c.put_decimal.ensures, append_assoc))
