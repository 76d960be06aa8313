-- "Kinds", and what their argument octets say.
use Rattle.std.specs.Prelude.{ℕ, ◌+◌, ◌*◌, Bool, true, false, ◌&&◌, eqb}
use Rattle.laws.specs.Pick.{pick}
use Rattle.parts.specs.declared.setup.Place.{Place}
use Rattle.parts.specs.declared.event.Event.{Event}
use Rattle.parts.specs.declared.kind.Kind.{Kind}
use Rattle.parts.specs.declared.kind.Kind.TheVariants.{Select, Deselect, Reset, Unknown, Use}
use Rattle.parts.specs.declared.kind.Work.TheVariants.{DataControl, WordFromHost, TakeWord, End, Position, Target, ReadStatus}

-- "1 Select(octet), 2 Deselect, 3 Data control(octet), 4 Word from host, 5 Take a word, 6 End, 7 Position(cylinder, head, sector),
-- 8 Target(sector or FFFF), 9 Read status, 10 Reset."
unfoldable pub kind_of : ℕ → Kind
kind_of n =
    pick (eqb n 1) Select
    (pick (eqb n 2) Deselect
    (pick (eqb n 3) (Use DataControl)
    (pick (eqb n 4) (Use WordFromHost)
    (pick (eqb n 5) (Use TakeWord)
    (pick (eqb n 6) (Use End)
    (pick (eqb n 7) (Use Position)
    (pick (eqb n 8) (Use Target)
    (pick (eqb n 9) (Use ReadStatus)
    (pick (eqb n 10) Reset Unknown)))))))))

-- "Each event has four argument octets: kinds 1 and 3 use one, 4 and 8 two, 7 all four .., the others none."
abbrev pub none_after1 : Event → Bool
none_after1 e = eqb e.a1 0 && eqb e.a2 0 && eqb e.a3 0

abbrev pub none_after2 : Event → Bool
none_after2 e = eqb e.a2 0 && eqb e.a3 0

abbrev pub none_at_all : Event → Bool
none_at_all e = eqb e.a0 0 && eqb e.a1 0 && eqb e.a2 0 && eqb e.a3 0

abbrev pub uses_only_its_own : Kind → Event → Bool
uses_only_its_own Select e = none_after1 e
uses_only_its_own Deselect e = none_at_all e
uses_only_its_own Reset e = none_at_all e
uses_only_its_own (Use DataControl) e = none_after1 e
uses_only_its_own (Use WordFromHost) e = none_after2 e
uses_only_its_own (Use TakeWord) e = none_at_all e
uses_only_its_own (Use End) e = none_at_all e
uses_only_its_own (Use Position) e = true
uses_only_its_own (Use Target) e = none_after2 e
uses_only_its_own (Use ReadStatus) e = none_at_all e
uses_only_its_own Unknown e = false

-- The octet of kinds 1 and 3, the word of 4, the target of 8, "(cylinder 2, head 1, sector 1)" of 7, high first.
abbrev pub word_of : Event → ℕ
word_of e = e.a0 * 256 + e.a1

abbrev pub place_of : Event → Place
place_of e = record { cylinder = word_of e; head = e.a2; sector = e.a3 }
