-- The status octets and their decodings undo each other: `specs/RoundTrip` proved.
-- Assumes nothing.
use Prim.Native.Nat.{ℕ, suc, ◌≤◌}
use mathlib.Core.Path.{◌≡◌, refl, sym, ◌∙◌}
use mathlib.Core.Bool.{true}
use mathlib.Core.List.{List, ◌∷◌, ◌++◌}
use native.Mathlib.Omega.{arith}
use borrow.Author.Tests.{le-ltb, ltb-false}
use lib.ListN.{length, take, drop}
use Rattle.laws.specs.Pick.{pick}
use Rattle.laws.specs.Lists.{written_over}
use Rattle.status.specs.Encoded.{EncodedAs, encode_rows}
use Rattle.status.specs.DriveStatus.{octet_of, status_of, is_drive_status, drive_status_octets, drive_status_rows, DecodedDriveStatus}
use Rattle.status.specs.Response.{response_octets, response_rows, DecodedResponse}
use Rattle.status.specs.RoundTrip.{DriveStatusRoundTrip, ResponseRoundTrip}
use Rattle.std.specs.Prelude.{Result, Ok, ⊤}
use Rattle.refusals.specs.declared.refusal.Refusal.{Refusal}
use Rattle.refusals.proofs.OnPaper.{done, value_given}
use Rattle.status.specs.declared.drive_status.DriveStatus.{DriveStatus}
use Rattle.status.specs.declared.drive_status.DriveStatus.TheVariants.{Normal, Busy, HeaderMiscompare, OperationException, UnsolicitedException}
use Rattle.status.specs.declared.response.Response.{Response}
use Rattle.laws.proofs.Rows.{none_given, all_passed}
use Rattle.laws.proofs.Runs.{run_read}
use Rattle.status.proofs.Foreign.{never_foreign, response_of_octets}
use Rattle.status.proofs.Decoding.{drive_status_decoded, response_decoded}

-- an encoder with room enough writes
has_written : {octets before after : List ℕ} {answer : Result ⊤ Refusal} → length octets ≤ length before → EncodedAs octets before after answer
    → (answer ≡ Ok tt) × (after ≡ written_over before octets)
has_written {octets} {before} h e =
    let free = none_given (encode_rows octets before) (le-ltb _ _ h, tt) in
    (done (e.answer ∙ free), e.slice ∙ rw free)

-- ---- the drive status octet

pub status_of_octet : (status : DriveStatus) → (is_drive_status (octet_of status) ≡ true) × (status_of (octet_of status) ≡ status)
unfolding is_drive_status status_of pick
status_of_octet Normal = (refl, refl)
status_of_octet Busy = (refl, refl)
status_of_octet HeaderMiscompare = (refl, refl)
status_of_octet OperationException = (refl, refl)
status_of_octet UnsolicitedException = (refl, refl)

decoded_octet : (octets : List ℕ) (status : DriveStatus) → DecodedDriveStatus octets (Ok status) → drive_status_octets status ≡ take 1 octets
decoded_octet octets status d =
    let (long, later) = all_passed (drive_status_rows octets) refl (value_given (drive_status_rows octets) d.answer).0 in
    rw d.octet (sym (run_read octets 0 1 (ltb-false _ _ long)))

pub encoded_octet : (status : DriveStatus) (rest : List ℕ) → DecodedDriveStatus (octet_of status ∷ rest) (Ok status)
encoded_octet status rest =
    let (known, same) = status_of_octet status in
    let free = none_given (drive_status_rows (octet_of status ∷ rest)) (le-ltb (suc (length rest)) 1 (omega arith), (rw known, tt)) in
    drive_status_decoded (rw (free, same))

-- ---- the status response

decoded_octets : (octets : List ℕ) (response : Response) → DecodedResponse octets (Ok response) → response_octets response ≡ take 8 octets
decoded_octets octets response d =
    d.octets_told

pub encoded_octets : (response : Response) (rest : List ℕ) → DecodedResponse (response_octets response ++ rest) (Ok response)
encoded_octets response rest =
    let free = none_given (response_rows (response_octets response ++ rest)) (le-ltb (length (response_octets response ++ rest)) 8 (omega arith), (never_foreign response rest, tt)) in
    response_decoded (rw (free, response_of_octets response))

pub drive_status_round_trip : DriveStatusRoundTrip
drive_status_round_trip =
    record {
      encode_decode = λ octets before after status answer d h e. rw (← (decoded_octet octets status d)) (has_written h e);
      decode_encode = λ before after status answer h e. let (is, slice) = has_written h e in (is, rw slice (encoded_octet status (drop 1 before)));
    }

pub response_round_trip : ResponseRoundTrip
response_round_trip =
    record {
      encode_decode = λ octets before after response answer d h e. rw (← (decoded_octets octets response d)) (has_written h e);
      decode_encode = λ before after response answer h e. let (is, slice) = has_written h e in (is, rw slice (encoded_octets response (drop 8 before)));
    }
