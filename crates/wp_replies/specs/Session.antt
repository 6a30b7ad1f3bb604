-- A client's session over the one history.
use Rattle.std.specs.Prelude.{ℕ, List, [], ◌∷◌}
use Rattle.wp_text.specs.declared.script.Command.{Command}
use Rattle.wp_text.specs.declared.reply.Reply.{Reply}
use Rattle.wp_replies.specs.Client.{Client}
use Rattle.wp_replies.specs.After.{after_reply}
use Rattle.wp_replies.specs.Progress.{Progress, progress_after}
use Rattle.wp_replies.specs.Replies.{Evidence, Allows}

-- Each command has one reply, in order, which the table allows, by what the client knows then.
abbrev pub IsSession : Evidence → Progress → Client → List Command → List Reply → Type 0
IsSession evidence progress client [] [] = Unit {0}
IsSession evidence progress client [] (answer ∷ answers) = ⊥
IsSession evidence progress client (first ∷ commands) [] = ⊥
IsSession evidence progress client (first ∷ commands) (answer ∷ answers) =
    (p : ℕ) × Allows evidence progress client p first answer × IsSession evidence (progress_after progress first answer) (after_reply p client first answer) commands answers
