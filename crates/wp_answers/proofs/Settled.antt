-- Each answer of a settle, beside others and alone.
use Rattle.std.proofs.Common.{◌≡◌, ◌≢◌, inl, inr, ℕ, ◌≤◌, List, [], ◌∷◌, length, Option, Some, refl, sym, ap, ◌∙◌}
use Rattle.std.specs.Prelude.{AllPairs}
use Rattle.wp_text.specs.declared.script.Command.TheVariants as command
use Rattle.wp_text.specs.declared.reply.Reply.{Reply}
use Rattle.wp_text.specs.declared.reply.Reply.TheVariants as reply
use Rattle.wp_shared.specs.Seats.{SharedState, SeatState}
use Rattle.wp_open_txns.specs.declared.error.TxnError.{TxnError}
use Rattle.wp_open_txns.specs.Txn.{PreparedState}
use Rattle.wp_replies.specs.declared.client.LabelledSnapshot.{LabelledSnapshot}
use Rattle.wp_replies.specs.Txn.{Staged, Idle, Open, Prepared}
use Rattle.wp_replies.specs.Due.{Store, due, reply_to}
use Rattle.wp_replies.specs.Plan.{refused_or, settle_names}
use Rattle.wp_replies.specs.Replies.{refuses_settle}
use Rattle.wp_client.specs.Answers.{IsAnswered}
use Rattle.wp_client.specs.Replies.{refusal}
use Rattle.wp_client.proofs.Clients.{having}
use Rattle.wp_answers.specs.Settling.{TakesAll, RefusesTakes, SettlesThem, RefusesThem}
use Rattle.wp_answers.proofs.Alone.Settling.{not_taken_alone, not_settled_alone, settled_alone}
use Rattle.wp_answers.proofs.Settles.{not_taken_beside, not_settled_beside, settled_beside}

module _ {D : Type 0} (z : SharedState D) (old new : SeatState) (names : List (List ℕ)) (some : 1 ≤ length names) (snapshots : List LabelledSnapshot) where
  pub not_taken_answers : AllPairs ◌≢◌ names → (why : TxnError) (r : Reply) → refusal why ≡ Some r → RefusesTakes z old names why new → IsAnswered z old new (having Idle snapshots) (having Idle snapshots) (command.Settle names) r
  not_taken_answers differ why r is (inl (memory, same)) = let none = ap refusal (sym memory) ∙ is in absurd cc
  not_taken_answers differ why r is (inr k) = (
    not_taken_beside z old new names some snapshots differ why r is k,
    λ world stands only first is_first store so locks. not_taken_alone z first old new only store so (world, stands) names some snapshots differ why r is k,
  )

  module _ (txns : List PreparedState) (mid : SeatState) (all : TakesAll z old names txns mid) where
    pub not_settled_answers : (why : TxnError) (r : Reply) → refusal why ≡ Some r → RefusesThem z mid txns why new → IsAnswered z old new (having Idle snapshots) (having Idle snapshots) (command.Settle names) r
    not_settled_answers why r is k = (
      not_settled_beside z old new names some snapshots txns mid all k.behind k.leaves why r is k.refused,
      λ world stands only first is_first store so locks. not_settled_alone z first old new only store so (world, stands) names some snapshots txns mid all k.behind k.leaves why r is k.refused,
    )

    pub settled_answers : (n count : ℕ) → count ≡ length txns → SettlesThem z mid txns n new → IsAnswered z old new (having Idle snapshots) (having Idle snapshots) (command.Settle names) (reply.Settled n count)
    settled_answers n count many k = (
      settled_beside z old new names some snapshots txns mid all n count many k.commits,
      λ world stands only first is_first store so locks. settled_alone z first old new only store so (world, stands) names some snapshots txns mid all n count many k.commits,
    )

-- where the client has a transaction it settles none
pub open_settles_none : (own : Staged) (names : List (List ℕ)) → refuses_settle (Open own) names ≡ Some reply.State
open_settles_none own [] = refl
open_settles_none own (name ∷ names) = refl

pub prepared_settles_none : (p : ℕ) (names : List (List ℕ)) → refuses_settle (Prepared p) names ≡ Some reply.State
prepared_settles_none p [] = refl
prepared_settles_none p (name ∷ names) = refl

pub open_settle_due : (own : Staged) (names : List (List ℕ)) (store : Store) (snapshots : List LabelledSnapshot) → due store (having (Open own) snapshots) (command.Settle names) ≡ reply.State
open_settle_due own names store snapshots = ap (λ (o : Option Reply). reply_to store (having (Open own) snapshots) (refused_or o (settle_names store.history names))) (open_settles_none own names)

pub prepared_settle_due : (p : ℕ) (names : List (List ℕ)) (store : Store) (snapshots : List LabelledSnapshot) → due store (having (Prepared p) snapshots) (command.Settle names) ≡ reply.State
prepared_settle_due p names store snapshots = ap (λ (o : Option Reply). reply_to store (having (Prepared p) snapshots) (refused_or o (settle_names store.history names))) (prepared_settles_none p names)
