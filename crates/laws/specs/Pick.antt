-- A choice by a test, at any type: the one `if` of our definitions.
use Rattle.std.specs.Prelude.{Bool, true, false}

unfoldable pub pick : {A : Type 0} → Bool → A → A → A
pick true yes' no' = yes'
pick false yes' no' = no'
