-- What clients were answered.
use Rattle.std.specs.Prelude.{Bool, List, map}
use Rattle.wp_text.specs.declared.reply.Reply.{Reply}

-- what a client was answered: replies to its commands, or, where memory was wanting, to the first of them
pub record Answered : Type 0 where
  pub replies : List Reply
  pub whole : Bool

abbrev pub replies_in : Answered → List Reply
replies_in answered = answered.replies

-- each client's replies
abbrev pub replies_of : List Answered → List (List Reply)
replies_of answered = map replies_in answered
