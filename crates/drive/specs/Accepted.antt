-- "Strike out every refused event": what is left of a run.
use Rattle.std.specs.Prelude.{Bool, true, false, List, [], ◌∷◌}
use Rattle.laws.specs.Pick.{pick}
use Rattle.drive.specs.declared.answer.Answer.{Answer}
use Rattle.drive.specs.declared.answer.Answer.TheVariants.{Refused, Done, Status, Opened, Word, LastWord, Response}

abbrev pub is_refused : Answer → Bool
is_refused (Refused refusal) = true
is_refused Done = false
is_refused (Status s) = false
is_refused (Opened n p) = false
is_refused (Word w) = false
is_refused (LastWord w) = false
is_refused (Response octet0 octet1 octet2) = false

-- Of the events, or of the answers themselves, those whose answer is no refusal.
unfoldable pub accepted : {A : Type 0} → List A → List Answer → List A
accepted [] told = []
accepted (x ∷ xs) [] = []
accepted (x ∷ xs) (answer ∷ told) = pick (is_refused answer) (accepted xs told) (x ∷ accepted xs told)
