-- What the private functions of the decoder ask and promise.
use Rattle.std.specs.Prelude.{ℕ, ◌+◌, ◌*◌, ◌^◌, ◌≤◌, ◌<◌, ◌≡◌, Bool, true, false, not, ◌&&◌, List, [], ◌∷◌, Result, IfOk, eqb, ltb, length}
use Rattle.laws.specs.Pick.{pick}
use Rattle.parts.specs.Setup.{within_limits}
use Rattle.parts.specs.declared.setup.Setup.{Setup}
use Rattle.defects.specs.Offence.{Test, ◌at◌when◌, no_offence, first_of, tests_over, found_on_paper, offence_in, offence_or, unless_found}
use Rattle.laws.specs.Lists.{written_over, written_at}
use Rattle.defects.specs.Defect.{behind, behind_all, list_octets}
use Rattle.defects.specs.Field.{is_ignored, defects_in}
use Rattle.defects.specs.Judging.{entry_tests, list_tests, same_test, original_tests, field_tests}
use Rattle.defects.specs.Place.{field_octets, data_fields}
use Rattle.defects.specs.Walk.{after, is_ended, walk_at, defects_before, map_tests}
use Rattle.defects.specs.Decoding.{defects_of, map_of}
use Rattle.defects.specs.Source.{string_in, is_alone, Readable}
use Rattle.defects.specs.declared.defect.Defect.{Defect}
use Rattle.defects.specs.declared.entries.Entries.{Entries}
use Rattle.defects.specs.declared.gathering.Gathered.{Gathered}
use Rattle.defects.specs.declared.walking.Judgement.{Judgement}
use Rattle.defects.specs.declared.decoding.MapRead.{MapRead}
use Rattle.defects.specs.declared.offence.Offence.{Offence}
use Rattle.defects.specs.declared.source.Source.{Source}
use Rattle.defects.specs.declared.walk.Walk.{Walk}
use Rattle.defects.specs.declared.walk.Progress.{Progress}

-- A data field of a map in a drive, and its offset.
pub record Sized (s : Setup) (start : ℕ) (field : List ℕ) : Type 0 where
  pub limits : within_limits s ≡ true
  pub least : 16 ≤ length field
  pub most : length field ≤ 2048
  pub within : start ≤ 2 ^ 32

-- The offsets in a data field fit a number.
pub record IsNear (start : ℕ) (field : List ℕ) : Type 0 where
  pub within : start + length field < 2 ^ 63

-- And copy 0 of its set has as many octets.
pub record Comparable (start : ℕ) (original field : List ℕ) : Type 0 where
  pub alike : length original ≡ length field
  pub near : IsNear start field

-- An entry: its offence, or the least address that is higher than all up to it.
pub record EntryJudged (s : Setup) (flagged : Bool) (least offset : ℕ) (d : Defect) (r : Result ℕ Offence) : Type 0 where
  pub offence : offence_in r ≡ first_of (entry_tests s flagged least offset d)
  pub next : IfOk r (λ above. above ≡ behind least d)

-- All entries: their offence, or how many they are and that address.
pub record EntriesJudged (s : Setup) (flagged : Bool) (least start : ℕ) (field : List ℕ) (r : Result Entries Offence) : Type 0 where
  pub offence : offence_in r ≡ first_of (list_tests s flagged least (start + 14) (defects_in field))
  pub entries : IfOk r (λ entries. entries ≡ record { count = length (defects_in field); least = behind_all least (defects_in field) })

-- Copy 0 of a set.
pub record OriginalJudged (s : Setup) (w : Walk) (least start : ℕ) (field : List ℕ) (r : Result ℕ Offence) : Type 0 where
  pub offence : offence_in r ≡ first_of (original_tests s w least start field)
  pub next : IfOk r (λ above. above ≡ behind_all least (defects_in field))

-- No one of so many octets from an index on is told as unlike that of copy 0.
abbrev pub NoneUnlike : List ℕ → List ℕ → ℕ → ℕ → Bool → Type 0
NoneUnlike field original from count alike = (start : ℕ) → alike ≡ true → first_of (tests_over (same_test start field original) from count) ≡ no_offence

-- A data field that can be judged at an offset, and copy 0 of its set beside it.
pub record Judgeable (s : Setup) (w : Walk) (start : ℕ) (original field : List ℕ) : Type 0 where
  pub sized : Sized s start field
  pub alike : length original ≡ length field
  pub few : w.set < 2 ^ 32

-- The defects that a data field lists where a copy is due.
abbrev pub own_defects : ℕ → List ℕ → List Defect
own_defects copy field = pick (not (is_ignored field) && eqb copy 0) (defects_in field) []

-- Data field k: its offence, or what is due behind it.
pub record StepTaken (s : Setup) (w : Walk) (least k start : ℕ) (original field : List ℕ) (r : Result Progress Offence) : Type 0 where
  pub offence : offence_in r ≡ first_of (pick (is_ignored field) [] (field_tests s w least start original field))
  pub next : IfOk r (λ next. next ≡ record { walk = after w k field; least = behind_all least (own_defects w.copy field) })

-- A map without an offence ends before this data field, and these are what is due there and what it lists.
pub record EndsAt (s : Setup) (octets : List ℕ) (fields : ℕ) (w : Walk) : Type 0 where
  pub within : fields ≤ data_fields s
  pub whole : fields * field_octets s ≤ length octets
  pub going : (k : ℕ) → k < fields → is_ended (walk_at s octets k) ≡ false
  pub ended : is_ended (walk_at s octets fields) ≡ true
  pub walk : w ≡ walk_at s octets (data_fields s)
  pub defects : defects_before s octets fields ≡ defects_of s octets

-- The map: its offence, or where it ends.
pub record MapJudged (s : Setup) (source : Source) (r : Result Judgement Offence) : Type 0 where
  pub offence : offence_in r ≡ first_of (map_tests (is_alone source) s (string_in s source))
  pub ends : IfOk r (λ judged. EndsAt s (string_in s source) judged.fields judged.walk)

-- The map decoded, once 9 and 10 are passed.
pub record MapListed (s : Setup) (source : Source) (before after : List ℕ) (r : Result MapRead Offence) : Type 0 where
  pub answer : found_on_paper r ≡ offence_or (first_of (map_tests (is_alone source) s (string_in s source))) (map_of s (string_in s source))
  pub slice : after ≡ unless_found (first_of (map_tests (is_alone source) s (string_in s source))) before (written_over before (list_octets (defects_of s (string_in s source))))

-- Behind the last data field of the cylinder.
abbrev pub last_tests : Walk → Bool → ℕ → ℕ → List Test
last_tests w alone start size = pick (is_ended w) (28 at start when (alone && ltb start size) ∷ []) (16 at start when true ∷ [])

-- A data field behind so many defects.
pub record FieldListed (copy count : ℕ) (field before after : List ℕ) (r : Gathered) : Type 0 where
  pub count' : r.count ≡ count + length (own_defects copy field)
  pub copy' : r.copy ≡ pick (is_ignored field) copy (pick (eqb copy 0) 1 (pick (eqb copy 2) 0 2))
  pub slice : after ≡ written_at before (12 * count) (list_octets (own_defects copy field))

-- So many data fields of a map are there, it has not ended before them, and their defects have room.
pub record Listable (s : Setup) (source : Source) (fields : ℕ) (defects : List ℕ) : Type 0 where
  pub readable : Readable s source
  pub within : fields ≤ data_fields s
  pub whole : fields * field_octets s ≤ length (string_in s source)
  pub going : (k : ℕ) → k < fields → is_ended (walk_at s (string_in s source) k) ≡ false
  pub held : 12 * length (defects_before s (string_in s source) fields) ≤ length defects
