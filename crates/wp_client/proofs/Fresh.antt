-- Which replies have a number that was published while the command ran.
use Rattle.std.specs.Prelude.{if◌then◌else◌}
use Rattle.std.proofs.Common.{◌≡◌, ℕ, Bool, true, false, List, Option, Some, None, subst}
use Rattle.wp_text.specs.declared.script.Command.TheVariants as command
use Rattle.wp_text.specs.declared.reply.Reply.{Reply}
use Rattle.wp_text.specs.declared.reply.Reply.TheVariants as reply
use Rattle.wp_model.proofs.Tests.{same_some}
use Rattle.wp_shared.specs.Seats.{SharedState, SeatState}
use Rattle.wp_replies.specs.Plan.{read_reply}
use Rattle.wp_read.specs.Fresh.{WasPublished}
use Rattle.wp_client.specs.Fresh.{NamesSeen}
use Rattle.wp_client.specs.Replies.{own_reply}

module _ {D : Type 0} (z : SharedState D) (old new : SeatState) where
  -- the client's own transaction answers
  pub own_names : (key : List ℕ) (said : Option (Option (List ℕ))) (r : Reply) → own_reply said ≡ Some r → NamesSeen z old new (command.Get key) r
  own_names key None r is = absurd cc
  own_names key (Some None) r is = subst (NamesSeen z old new (command.Get key)) (same_some reply.MissingOwn r is) tt
  own_names key (Some (Some value)) r is = subst (NamesSeen z old new (command.Get key)) (same_some (reply.GotOwn value) r is) tt

  -- the store does
  pub read_names : (key : List ℕ) (value : Option (List ℕ)) (n : ℕ) → WasPublished z old new n → NamesSeen z old new (command.Get key) (read_reply value n)
  read_names key (Some value) n was = was
  read_names key None n was = was

  -- the label is refused
  pub label_names : (label : List ℕ) (taken full : Bool) (r : Reply) → (if taken then Some (reply.Taken label) else (if full then Some reply.TooMany else None)) ≡ Some r → NamesSeen z old new (command.Snap label) r
  label_names label true full r is = subst (NamesSeen z old new (command.Snap label)) (same_some (reply.Taken label) r is) tt
  label_names label false true r is = subst (NamesSeen z old new (command.Snap label)) (same_some reply.TooMany r is) tt
  label_names label false false r is = absurd cc
