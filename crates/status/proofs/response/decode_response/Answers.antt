-- `status::response::decode_response` meets its contract: the octets are long enough and none of them is foreign.
-- Assumes nothing.
use borrow.Author.Tests.{le-ltb}
use Rattle.laws.specs.Pick.{pick}
use Rattle.laws.proofs.Pick.{told}
use Rattle.status.proofs.Decoding.{response_decoded}
use Rattle.status.proofs.response.decode_response.Goals as goal

pub returns : goal.returns
unfolding pick
returns c =
    response_decoded (rw (le-ltb _ _ c.if-octets-lt-RESPONSE_LENGTH.false, told _ _ _ c.is_foreign.ensures c.if-is_foreign.false, c.response_of.ensures))
