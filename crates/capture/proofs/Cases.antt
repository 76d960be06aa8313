-- The capture that document 01 writes out, computed.
-- Assumes nothing.
use mathlib.Core.Path.{refl}
use Rattle.laws.specs.Pick.{pick}
use Rattle.capture.specs.Record.{record_of}
use Rattle.capture.specs.Cases.{CaptureCases}

pub capture_cases_lem : CaptureCases
unfolding pick record_of
capture_cases_lem = record { encoded = refl; decoded = record { answer = refl }; second = record { answer = refl } }
