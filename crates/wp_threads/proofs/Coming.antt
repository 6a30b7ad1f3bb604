-- What a client comes to by its commands and replies.
use Rattle.std.proofs.Common.{◌≡◌, inl, inr, ℕ, Bool, true, true≢false, List, [], ◌∷◌, Option, Some, None, sym, ap, ◌∙◌}
use Rattle.std.specs.Prelude.{◌||◌, ◌&&◌}
use Rattle.std.specs.List.{list_any}
use Rattle.std.proofs.lemmas.Bool.{or_cases, or_left, or_right}
use Rattle.std.proofs.lemmas.List.Concat.{flat_map-cons}
use Rattle.std.proofs.lemmas.List.Folds.{list_any-append}
use Rattle.wp_text.specs.declared.script.Command.{Command}
use Rattle.wp_text.specs.declared.reply.Reply.{Reply}
use Rattle.wp_model.proofs.Tests.{both}
use Rattle.wp_replies.specs.Txn.{Txn}
use Rattle.wp_replies.specs.Client.{Client}
use Rattle.wp_replies.specs.After.{after_reply}
use Rattle.wp_replies.specs.Kind.{is_based, is_flushed}
use Rattle.wp_replies.specs.Known.{Dialogue, answers_in, comes_to}
use Rattle.wp_client.specs.Answers.{is_answer}
use Rattle.wp_threads.proofs.Lists.{any_wider}

-- in such a state, to such a command, with such a reply or none
abbrev pub Such : Type 0
Such = Txn → Command → Option Reply → Bool

pub comes_wider : (p q : Such) → ((t : Txn) (c : Command) (a : Option Reply) → p t c a ≡ true → q t c a ≡ true) → (client : Client) (commands : List Command) (answers : List Reply) → comes_to p client commands answers ≡ true → comes_to q client commands answers ≡ true
comes_wider p q f client [] answers is = absurd (true≢false (sym is))
comes_wider p q f client (c ∷ commands) [] is = f client.txn c None is
comes_wider p q f client (c ∷ commands) (a ∷ answers) is = elim (or_cases (p client.txn c (Some a)) (comes_to p (after_reply 0 client c a) commands answers) is) [
  | inl here ↦ or_left (q client.txn c (Some a)) (comes_to q (after_reply 0 client c a) commands answers) (f client.txn c (Some a) here)
  | inr later ↦ or_right (q client.txn c (Some a)) (comes_to q (after_reply 0 client c a) commands answers) (comes_wider p q f (after_reply 0 client c a) commands answers later)
]

pub comes_both : (b : Bool) (p : Such) (client : Client) (commands : List Command) (answers : List Reply) → comes_to (λ t c a. b && p t c a) client commands answers ≡ true → (b ≡ true) × (comes_to p client commands answers ≡ true)
comes_both b p client [] answers is = absurd (true≢false (sym is))
comes_both b p client (c ∷ commands) [] is = both b (p client.txn c None) is
comes_both b p client (c ∷ commands) (a ∷ answers) is =
    elim (or_cases (b && p client.txn c (Some a)) (comes_to (λ t d r. b && p t d r) (after_reply 0 client c a) commands answers) is) [
      | inl here ↦ let k = both b (p client.txn c (Some a)) here in (k.0, or_left (p client.txn c (Some a)) (comes_to p (after_reply 0 client c a) commands answers) k.1)
      | inr later ↦ let k = comes_both b p (after_reply 0 client c a) commands answers later in (k.0, or_right (p client.txn c (Some a)) (comes_to p (after_reply 0 client c a) commands answers) k.1)
    ]

-- a reply of such a kind is among the replies
pub comes_answered : (p : Reply → Bool) (client : Client) (commands : List Command) (answers : List Reply) → comes_to (λ t c a. is_answer p a) client commands answers ≡ true → list_any p answers ≡ true
comes_answered p client [] answers is = absurd (true≢false (sym is))
comes_answered p client (c ∷ commands) [] is = absurd (true≢false (sym is))
comes_answered p client (c ∷ commands) (a ∷ answers) is = elim (or_cases (p a) (comes_to (λ t d r. is_answer p r) (after_reply 0 client c a) commands answers) is) [
  | inl here ↦ or_left (p a) (list_any p answers) here
  | inr later ↦ or_right (p a) (list_any p answers) (comes_answered p (after_reply 0 client c a) commands answers later)
]

-- a renewal is among the replies, which tells its base and the flushed number from then on
pub renewal_answered : (base flushed : ℕ) (client : Client) (commands : List Command) (answers : List Reply) → comes_to (λ t c a. is_answer (λ r. is_based base r && is_flushed flushed r) a) client commands answers ≡ true → (list_any (is_based base) answers ≡ true) × (list_any (is_flushed flushed) answers ≡ true)
renewal_answered base flushed client commands answers is =
    let said = comes_answered (λ (r : Reply). is_based base r && is_flushed flushed r) client commands answers is in (
      any_wider (λ (r : Reply). is_based base r && is_flushed flushed r) (is_based base) answers (λ r k. (both (is_based base r) (is_flushed flushed r) k).0) said,
      any_wider (λ (r : Reply). is_based base r && is_flushed flushed r) (is_flushed flushed) answers (λ r k. (both (is_based base r) (is_flushed flushed r) k).1) said,
    )

-- so it is among those of all dialogues
pub answers_any : (p : Reply → Bool) (all : List Dialogue) → list_any (λ (d : Dialogue). list_any p d.answers) all ≡ true → list_any p (answers_in all) ≡ true
answers_any p [] is = is
answers_any p (d ∷ all) is =
    let whole : list_any p (answers_in (d ∷ all)) ≡ (list_any p d.answers || list_any p (answers_in all)) = ap (list_any p) (flat_map-cons (λ (x : Dialogue). x.answers) d all) ∙ list_any-append p d.answers (answers_in all) in
    whole ∙ elim (or_cases (list_any p d.answers) (list_any (λ (x : Dialogue). list_any p x.answers) all) is) as (λ k. (list_any p d.answers || list_any p (answers_in all)) ≡ true) [
      | inl here ↦ or_left (list_any p d.answers) (list_any p (answers_in all)) here
      | inr later ↦ or_right (list_any p d.answers) (list_any p (answers_in all)) (answers_any p all later)
    ]
