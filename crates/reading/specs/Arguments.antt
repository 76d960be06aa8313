-- How many arguments a program was given, by what reading one gives. What stands in them comes from outside.
use Rattle.std.specs.Prelude.{ℕ, Bool, true, false, not, ◌&&◌, Result, Ok, Err}
use Rattle.std.specs.declared.env.FillError.{FillError}
use Rattle.std.specs.declared.env.FillError.TheVariants.{NotPresent, TooLong}

-- std's `Env`: "The list ends at the first `NotPresent`." One that is too long for the room is there, too.
abbrev pub is_given : Result ℕ FillError → Bool
is_given (Ok length) = true
is_given (Err NotPresent) = false
is_given (Err TooLong) = true

-- The last one is there, and none behind it.
abbrev pub has_arguments : Result ℕ FillError → Result ℕ FillError → Bool
has_arguments last behind = is_given last && not (is_given behind)
