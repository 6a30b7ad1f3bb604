-- What is in a seat's past is explained by the dialogue of the client whose session it was.
use Rattle.std.proofs.Common.{◌≡◌, ℕ, zero, suc, true, List, [], ◌∷◌, map, refl, sym, subst, ap, ◌∙◌}
use Rattle.std.specs.Prelude.{IfSome, ◌&&◌, Option, Some}
use Rattle.std.specs.Str.{bytes_eq}
use Rattle.std.proofs.lemmas.Slice.Eq.{bytes_eq-Decides}
use mathlib.Core.Option.{some, some-injective, some-ne-none}
use lib.ListN.{get_elem?}
use Rattle.wp_model.specs.declared.holder.Holder.TheVariants.{Client}
use Rattle.wp_text.specs.declared.script.Command.{Command}
use Rattle.wp_text.specs.declared.script.Command.TheVariants as command
use Rattle.wp_text.specs.declared.script.Part.{Part}
use Rattle.wp_text.specs.declared.reply.Reply.{Reply}
use Rattle.wp_text.specs.declared.reply.Reply.TheVariants as reply
use Rattle.wp_core.specs.Lists.{IsIn}
use Rattle.wp_core.specs.Sound.Pasts.{HasDone, past_of}
use Rattle.wp_core.specs.Views.{Event, took, locked}
use Rattle.wp_shared.specs.Seats.{SharedState, SeatState, participant_of}
use Rattle.wp_shared.specs.Ended.{of_seats}
use Rattle.wp_replies.specs.Txn as session_txn
use Rattle.wp_replies.specs.Client.{new_client}
use Rattle.wp_replies.specs.Explains.{dialogue, dialogues}
use Rattle.wp_replies.specs.Known.{StoredState, Dialogue, comes_to, gets_name, takes_name, writes_key}
use Rattle.wp_client.specs.Answers.{explaining}
use Rattle.wp_threads.specs.Over.{Answered, AreOver, replies_of}
use Rattle.wp_threads.proofs.Coming.{comes_wider, comes_both}

-- the client with this one of the dialogues did it
pub record Did (all : List Dialogue) (i : ℕ) (event : Event) : Type 0 where
  pub own : Dialogue
  pub there : get_elem? all i ≡ some own
  pub told : IfSome (explaining own.part.client event) (λ is_such. comes_to is_such new_client own.part.commands own.answers ≡ true)

module _ {D : Type 0} (z : SharedState D) (found : StoredState) where
  in_past : (parts : List Part) (answered : List Answered) (seats : List SeatState) → AreOver z found parts answered seats → (i : ℕ) (past : List Event) (event : Event) → get_elem? (map past_of (map participant_of seats)) i ≡ some past → IsIn event past
      → Did (dialogues parts (replies_of answered)) i event
  in_past [] [] [] over i past event at is = absurd (some-ne-none past (sym at))
  in_past (p ∷ parts) (a ∷ answered) (s ∷ seats) over zero past event at is =
      record { own = dialogue p a.replies; there = refl; told = over.0.explained event (subst (IsIn event) (sym (some-injective s.knows.participant.past past at)) is) }
  in_past (p ∷ parts) (a ∷ answered) (s ∷ seats) over (suc i) past event at is =
      let d = in_past parts answered seats over.1 i past event at is in record { own = d.own; there = d.there; told = d.told }
  in_past _ _ _ over i past event at is = absurd over

  pub did : (parts : List Part) (answered : List Answered) (seats : List SeatState) → AreOver z found parts answered seats → (j i : ℕ) (event : Event) → HasDone (of_seats past_of seats) j i event
      → (j ≡ 0) × Did (dialogues parts (replies_of answered)) i event
  did parts answered seats over zero i event (past, (ps, at, there), is) =
      (refl, in_past parts answered seats over i past event (ap (λ (x : List (List Event)). get_elem? x i) (some-injective (map past_of (map participant_of seats)) ps at) ∙ there) is)
  did parts answered seats over (suc j) i event (past, (ps, at, there), is) = absurd (some-ne-none ps (sym at))

-- who took a name has it
takes_gets : (name : List ℕ) (t : session_txn.Txn) (c : Command) (a : Option Reply) → takes_name name t c a ≡ true → gets_name name t c a ≡ true
takes_gets name t (command.Begin other) (Some reply.Begun) is = absurd cc
takes_gets name t c a is = is

pub took_name : (all : List Dialogue) (i : ℕ) (name : List ℕ) (d : Did all i (took name)) → comes_to (gets_name name) new_client d.own.part.commands d.own.answers ≡ true
took_name all i name d = comes_wider (takes_name name) (gets_name name) (takes_gets name) new_client d.own.part.commands d.own.answers d.told

-- who locked a key for a direct write is of that name, and writes the key
pub wrote_key : (all : List Dialogue) (i : ℕ) (key name : List ℕ) (d : Did all i (locked key (Client name)))
    → (bytes_eq d.own.part.client name && comes_to (writes_key key) new_client d.own.part.commands d.own.answers) ≡ true
wrote_key all i key name d =
    let k = comes_both (bytes_eq name d.own.part.client) (writes_key key) new_client d.own.part.commands d.own.answers d.told in
    let mine : bytes_eq d.own.part.client name ≡ true = (bytes_eq-Decides d.own.part.client name).1 (sym ((bytes_eq-Decides name d.own.part.client).0 k.0)) in
    rw (mine, k.1) refl
