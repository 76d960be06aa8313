-- `defects::storing::store` meets its contract: after i turns, i words are pasted.
-- Assumes nothing.
use Prim.Native.Nat.{◌+◌, ◌<◌}
use mathlib.Core.Path.{◌≡◌, sym, ◌∙◌}
use native.Mathlib.Numerals.{add-one}
use native.Mathlib.Omega.{arith}
use lib.ListN.{length}
use lib.Seq.{paste-zero, paste-suc, take-length}
use Rattle.defects.specs.Sectors.{octet_words}
use Rattle.defects.proofs.WordOctets.{length_words, word_there}
use Rattle.defects.proofs.storing.store.Goals as goal

pub loop-i-init : goal.loop-i-init
loop-i-init c = paste-zero c.args.words.now c.args.at (octet_words c.args.octets.now)

pub bounds-words-at : goal.bounds-words-at
bounds-words-at c = omega (arith, length_words c.args.octets.now)

pub loop-i-preserved : goal.loop-i-preserved
loop-i-preserved c =
    let a = c.args in
    let i = c.loop-i.i in
    let many = length_words a.octets.now in
    let inside : a.at + i < length a.words.now = omega arith in
    let word = c.word_at.ensures ∙ sym (word_there a.octets.now i (omega arith)) in
    rw (c.loop-i.invariant, word, add-one, paste-suc a.words.now a.at (octet_words a.octets.now) i 0 inside (omega arith))

pub returns : goal.returns
returns c =
    let words = octet_words c.args.octets.now in
    let all : c.loop-i.i ≡ length words = omega (arith, length_words c.args.octets.now) in
    rw (c.loop-i.invariant, all, take-length words)
