-- "Data controls": the words of an open write or read.
use Rattle.std.specs.Prelude.{ℕ, ◌+◌, Bool, not, ◌&&◌, List, eqb, take, drop, set, get_or}
use Rattle.std.proofs.Math.Seq.{paste}
use Rattle.laws.specs.Pick.{pick}
use Rattle.laws.specs.Lists.{same_list}
use Rattle.status.specs.declared.drive_status.DriveStatus.TheVariants.{Normal, HeaderMiscompare}
use Rattle.parts.specs.Setup.{sector_start, sector_at}
use Rattle.parts.specs.Control.{verifies_header, moves_header, names_field1, names_field2, part, words_to_come, words_read}
use Rattle.drive.specs.State.{told, with_transfer, Result, result}
use Rattle.parts.specs.Tests.{moved_on}
use Rattle.drive.specs.Drive.{ended}
use Rattle.parts.specs.declared.setup.Setup.{Setup}
use Rattle.drive.specs.declared.drive.Drive.{Drive}
use Rattle.drive.specs.declared.answer.Outcome.{Outcome}
use Rattle.drive.specs.declared.answer.Answer.TheVariants.{Done, Status, Word, LastWord}

-- ---- a word from the host

-- "With verify, a header that differs ends the transfer at its last header word with 7": so many words are staged, just the header, and it differs.
unfoldable pub miscompares : Setup → ℕ → ℕ → ℕ → List ℕ → List ℕ → Bool
miscompares s c count start sectors staging =
    verifies_header c && eqb count s.header && not (same_list (take s.header staging) (take s.header (drop start sectors)))

-- "At the last word the named written fields go to the sector and nothing else does." A field's words were staged behind those that passed before it.
unfoldable pub committed : Setup → ℕ → ℕ → List ℕ → List ℕ → List ℕ
committed s c start sectors staging =
    let field1 = part (names_field1 c) s.field1 in
    paste
    (paste
    (paste sectors start staging (part (moves_header c) s.header))
    (start + s.header) (drop s.header staging) field1)
    (start + s.header + s.field1) (drop (s.header + field1) staging) (part (names_field2 c) s.field2)

-- `count` words of the open write are staged.
unfoldable pub staged : Drive → ℕ → ℕ → List ℕ → List ℕ → Result
staged d count start sectors staging =
    let c = d.transfer.control in
    pick (miscompares d.setup c count start sectors staging) (result (told (Status HeaderMiscompare) (ended d)) sectors staging)
    (pick (eqb count (words_to_come d.setup c))
    (result (told (Status Normal) (ended d)) (committed d.setup c start sectors staging) staging)
    (result (told Done (with_transfer d (moved_on d.transfer count))) sectors staging))

-- "Word k of a write, counted from 0 in that transfer, is staged at index k, and no other staging word changes."
unfoldable pub word_staged : Drive → ℕ → List ℕ → List ℕ → Result
word_staged d word sectors staging =
    staged d (d.transfer.moved + 1) (sector_start d.setup d.place) sectors (set staging d.transfer.moved word)

-- ---- a word to the host

-- "Take answers the next word", and at the last one 0 with it.
unfoldable pub word_taken : Drive → List ℕ → Outcome
word_taken d sectors =
    let c = d.transfer.control in
    let word = get_or (words_read d.setup c (sector_at d.setup d.place sectors)) d.transfer.moved 0 in
    pick (eqb (d.transfer.moved + 1) (words_to_come d.setup c)) (told (LastWord word) (ended d))
    (told (Word word) (with_transfer d (moved_on d.transfer (d.transfer.moved + 1))))
