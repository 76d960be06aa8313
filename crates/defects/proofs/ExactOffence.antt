-- `specs/Exactly` proved: the first test that holds is the one that is given, and a decoding reports it.
-- Assumes nothing.
use Prim.Native.Nat.{ℕ, ◌*◌, ◌/◌}
use mathlib.Core.Path.{◌≡◌, refl, sym, ap, ◌∙◌}
use mathlib.Core.Bool.{Bool, true, false, ◌||◌}
use mathlib.Core.List.{List, [], ◌∷◌}
use mathlib.Core.Logic.{◌↔◌}
use lib.Dec.{ltb}
use lib.ListN.{length}
use Rattle.laws.specs.Pick.{pick}
use Rattle.std.specs.Prelude.{Result}
use Rattle.parts.specs.Setup.{all_words}
use Rattle.defects.specs.Offence.{Test, offence_at, first_of, offence_in, number_in, offset_in}
use Rattle.defects.specs.Place.{field_octets, data_fields}
use Rattle.defects.specs.Decoding.{map_of, decode_tests, decode_offence}
use Rattle.defects.specs.Sectors.{last_cylinder, read_tests, read_offence}
use Rattle.defects.specs.Exactly.{GivenAt, here, later, ExactOffence}
use Rattle.defects.specs.declared.offence.Offence.{Offence}
use Rattle.defects.specs.declared.decoding.MapRead.{MapRead}
use Rattle.defects.proofs.Answers.{offence_told}
use Rattle.defects.proofs.LeastFirst.{least_first}

given_of : (tests : List Test) (n offset : ℕ) → first_of tests ≡ offence_at n offset → GivenAt n offset tests
unfolding first_of pick
given_of [] n offset e = absurd (cc)
given_of (test ∷ tests) n offset e = by_test test.holds refl e (given_of tests n offset)
  where
    by_test : (holds : Bool) → test.holds ≡ holds → pick holds (offence_at test.number test.offset) (first_of tests) ≡ offence_at n offset
        → (first_of tests ≡ offence_at n offset → GivenAt n offset tests) → GivenAt n offset (test ∷ tests)
    by_test true h e below = here (ap number_in e) (ap offset_in e) h
    by_test false h e below = later h (below e)

first_of_lem : {n offset : ℕ} {tests : List Test} → GivenAt n offset tests → first_of tests ≡ offence_at n offset
unfolding first_of pick
first_of_lem (here e f h) = rw (h, e, f)
first_of_lem (later h g) = rw h (first_of_lem g)

reported : (tests : List Test) (r : Result MapRead Offence) (n offset : ℕ) → offence_in r ≡ first_of tests → offence_in r ≡ offence_at n offset ↔ GivenAt n offset tests
reported tests r n offset e = (λ p. given_of tests n offset (sym e ∙ p), λ g. e ∙ first_of_lem g)

pub exact_offence : ExactOffence
exact_offence =
    record {
      first_offence_is_exact = λ tests n offset. (given_of tests n offset, first_of_lem);
      decode_map_exactly = λ s octets before after r n offset d. reported (decode_tests s octets before) r n offset (offence_told (decode_offence s octets before) (map_of s octets) r d.answer);
      read_map_exactly = λ s sectors before after r n offset d.
          reported (read_tests s sectors before) r n offset (offence_told (read_offence s sectors before) (map_of s (last_cylinder s sectors)) r d.answer);
      decode_map_least = λ s octets lent. least_first true s octets (ltb (length lent) (length octets / 3));
      read_map_least = λ s sectors lent.
          least_first false s (last_cylinder s sectors) (ltb (length sectors) (all_words s) || ltb (length lent) (data_fields s * field_octets s / 3));
    }
