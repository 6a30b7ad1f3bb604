-- What the clients were answered, as a whole.
use Rattle.std.specs.Prelude.{Bool, List}
use Rattle.std.specs.List.{list_all, list_any}
use Rattle.wp_text.specs.declared.reply.Reply.{Reply}
use Rattle.wp_text.specs.Answered.{Answered}

-- no session broke off
abbrev pub are_whole : List Answered → Bool
are_whole answered = list_all (λ a. a.whole) answered

-- a client was answered by such a fault
abbrev pub one_fails : (Reply → Bool) → List Answered → Bool
one_fails is_failed answered = list_any (λ a. list_any is_failed a.replies) answered
