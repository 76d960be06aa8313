-- "Drive status": the octet of each status, and what the two calls answer.
use Rattle.std.specs.Prelude.{ℕ, ◌≡◌, Bool, not, List, [], ◌∷◌, Result, IfOk, eqb, ltb, length, get_or}
use Rattle.laws.specs.Pick.{pick}
use Rattle.laws.specs.Rows.{Row, ◌when◌, refused_or}
use Rattle.laws.specs.Lists.{one_of}
use Rattle.status.specs.declared.drive_status.DriveStatus.{DriveStatus}
use Rattle.status.specs.declared.drive_status.DriveStatus.TheVariants.{Normal, Busy, HeaderMiscompare, OperationException, UnsolicitedException}
use Rattle.refusals.specs.Refusal.{on_paper}
use Rattle.refusals.specs.declared.refusal.Refusal.{Refusal}

-- "Drive status low four bits (004, 8.3.9), other bits 0 here: 0 normal, 1 busy, 7 header miscompare, 8 operation exception, C unsolicited exception."
abbrev pub octet_of : DriveStatus → ℕ
octet_of Normal = 0x00
octet_of Busy = 0x01
octet_of HeaderMiscompare = 0x07
octet_of OperationException = 0x08
octet_of UnsolicitedException = 0x0C

-- What `encode_drive_status` writes: its promise is `EncodedAs` these.
abbrev pub drive_status_octets : DriveStatus → List ℕ
drive_status_octets status = octet_of status ∷ []

-- "a drive status octet other than 00, 01, 07, 08, 0C" is refused.
abbrev pub known_octets : List ℕ
known_octets = 0x00 ∷ 0x01 ∷ 0x07 ∷ 0x08 ∷ 0x0C ∷ []

unfoldable pub is_drive_status : ℕ → Bool
is_drive_status octet = one_of known_octets octet

-- The status that has the octet.
unfoldable pub status_of : ℕ → DriveStatus
status_of octet =
    pick (eqb octet (octet_of Normal)) Normal
    (pick (eqb octet (octet_of Busy)) Busy
    (pick (eqb octet (octet_of HeaderMiscompare)) HeaderMiscompare
    (pick (eqb octet (octet_of OperationException)) OperationException
    UnsolicitedException)))

-- 8: "a drive status octet other than 00, 01, 07, 08, 0C". The promise of `try_from` is these rows, or `status_of`.
abbrev pub octet_rows : ℕ → List Row
octet_rows octet = 8 when not (is_drive_status octet) ∷ []

-- "other decoders .. [test] 10, then 8"
abbrev pub drive_status_rows : List ℕ → List Row
drive_status_rows octets = 10 when ltb (length octets) 1 ∷ octet_rows (get_or octets 0 0)

-- The promise of `decode_drive_status`: the refusal, or the status that has the first octet.
pub record DecodedDriveStatus (octets : List ℕ) (r : Result DriveStatus Refusal) : Type 0 where
  pub answer : on_paper r ≡ refused_or (drive_status_rows octets) (status_of (get_or octets 0 0))
  pub octet : IfOk r (λ status. octet_of status ≡ get_or octets 0 0)
