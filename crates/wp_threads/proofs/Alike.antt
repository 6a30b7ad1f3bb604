-- The number of a prepare that was taken does not count for what a client comes to.
use Rattle.std.proofs.Common.{◌≡◌, ℕ, true, false, List, Option, Some, None, refl, sym, subst, ◌∙◌}
use Rattle.std.specs.Prelude.{IfSome}
use Rattle.wp_model.specs.declared.change.Change.TheVariants as change
use Rattle.wp_model.specs.declared.holder.Holder.TheVariants as holder
use Rattle.wp_text.specs.declared.script.Command.{Command}
use Rattle.wp_text.specs.declared.script.Command.TheVariants as command
use Rattle.wp_text.specs.declared.reply.Reply.{Reply}
use Rattle.wp_text.specs.declared.reply.Reply.TheVariants as reply
use Rattle.wp_core.specs.Views.{Event, claimed, took, locked, told, installed, renewed, log_stopped}
use Rattle.wp_replies.specs.Txn.{Txn, Idle, Open, Prepared}
use Rattle.wp_replies.specs.After.{with_staged, with_locked_key, with_pin, after_reply}
use Rattle.wp_replies.specs.Client.{Client}
use Rattle.wp_replies.specs.Known.{gets_name, takes_name, tells}
use Rattle.wp_client.specs.Answers.{IsExplained}
use Rattle.wp_threads.specs.SoFar.{IsAlike}

alike_same : (t : Txn) → IsAlike t t
alike_same Idle = refl
alike_same (Open own) = refl
alike_same (Prepared p) = tt

-- what is so of the same, and of prepared ones, is so of those that are alike
alike_by : (Q : Txn → Txn → Type 0) → ((t : Txn) → Q t t) → ((p q : ℕ) → Q (Prepared p) (Prepared q)) → (t u : Txn) → IsAlike t u → Q t u
alike_by Q same both Idle u alike = subst (Q Idle) alike (same Idle)
alike_by Q same both (Open own) u alike = subst (Q (Open own)) alike (same (Open own))
alike_by Q same both (Prepared p) (Prepared q) alike = both p q
alike_by Q same both (Prepared p) Idle alike = subst (Q (Prepared p)) alike (same (Prepared p))
alike_by Q same both (Prepared p) (Open own) alike = subst (Q (Prepared p)) alike (same (Prepared p))

staged_alike : (change : _) (t u : Txn) → IsAlike t u → IsAlike (with_staged t change) (with_staged u change)
staged_alike change t u alike = alike_by (λ x y. IsAlike (with_staged x change) (with_staged y change)) (λ x. alike_same (with_staged x change)) (λ p q. tt) t u alike

read_alike : (key : List ℕ) (t u : Txn) → IsAlike t u → IsAlike (with_locked_key t key) (with_locked_key u key)
read_alike key t u alike = alike_by (λ x y. IsAlike (with_locked_key x key) (with_locked_key y key)) (λ x. alike_same (with_locked_key x key)) (λ p q. tt) t u alike

pin_alike : (n : ℕ) (t u : Txn) → IsAlike t u → IsAlike (with_pin t n) (with_pin u n)
pin_alike n t u alike = alike_by (λ x y. IsAlike (with_pin x n) (with_pin y n)) (λ x. alike_same (with_pin x n)) (λ p q. tt) t u alike

-- a reply leaves them alike
pub after_alike : (n m : ℕ) (t u : Client) (c : Command) (r : Reply) → IsAlike t.txn u.txn → IsAlike (after_reply n t c r).txn (after_reply m u c r).txn
after_alike n m t u (command.Put key value) reply.Held alike = staged_alike (change.Put key value) t.txn u.txn alike
after_alike n m t u (command.Del key) reply.Held alike = staged_alike (change.Del key) t.txn u.txn alike
after_alike n m t u c reply.Held alike = alike
after_alike n m t u (command.Lock key) (reply.Got value k) alike = read_alike key t.txn u.txn alike
after_alike n m t u c (reply.Got value k) alike = alike
after_alike n m t u (command.Lock key) (reply.Missing k) alike = read_alike key t.txn u.txn alike
after_alike n m t u c (reply.Missing k) alike = alike
after_alike n m t u c (reply.Pinned k) alike = pin_alike k t.txn u.txn alike
after_alike n m t u (command.Begin name) reply.Begun alike = refl
after_alike n m t u c reply.Begun alike = alike
after_alike n m t u (command.Take name) reply.Took alike = tt
after_alike n m t u c reply.Took alike = alike
after_alike n m t u c (reply.Prepared k) alike = tt
after_alike n m t u c (reply.Committed k) alike = refl
after_alike n m t u c reply.Dropped alike = refl
after_alike n m t u c (reply.RolledBack k) alike = refl
after_alike n m t u c reply.Left alike = refl
after_alike n m t u c other alike = alike

gets_same : (name : List ℕ) (p q : ℕ) (c : Command) (a : Option Reply) → gets_name name (Prepared p) c a ≡ gets_name name (Prepared q) c a
gets_same name p q (command.Begin other) (Some reply.Begun) = refl
gets_same name p q (command.Take other) (Some reply.Took) = refl
gets_same name p q c a = refl

takes_same : (name : List ℕ) (p q : ℕ) (c : Command) (a : Option Reply) → takes_name name (Prepared p) c a ≡ takes_name name (Prepared q) c a
takes_same name p q (command.Take other) (Some reply.Took) = refl
takes_same name p q c a = refl

tells_same : (label : List ℕ) (n p q : ℕ) (c : Command) (a : Option Reply) → tells label n (Prepared p) c a ≡ tells label n (Prepared q) c a
tells_same label n p q (command.Tell other) (Some (reply.Told m)) = refl
tells_same label n p q c a = refl

explained_same : (name : List ℕ) (c : Command) (a : Option Reply) (event : Event) (p q : ℕ) → IsExplained name (Prepared p) c a event → IsExplained name (Prepared q) c a event
explained_same name c a (claimed other) p q is = sym (gets_same other p q c a) ∙ is
explained_same name c a (took other) p q is = sym (takes_same other p q c a) ∙ is
explained_same name c a (told label n) p q is = sym (tells_same label n p q c a) ∙ is
explained_same name c a (locked key (holder.Txn other)) p q is = is
explained_same name c a (locked key (holder.Client other)) p q is = is
explained_same name c a (installed edit false) p q is = is
explained_same name c a (installed edit true) p q is = is
explained_same name c a (renewed edit) p q is = is
explained_same name c a log_stopped p q is = is
explained_same name c a _ p q is = tt

-- so what one of them explains, the other does
pub explained_alike : (name : List ℕ) (c : Command) (a : Option Reply) (event : Event) (t u : Txn) → IsAlike t u → IsExplained name u c a event → IsExplained name t c a event
explained_alike name c a event t u alike = alike_by (λ x y. IsExplained name y c a event → IsExplained name x c a event) (λ x is. is) (λ p q. explained_same name c a event q p) t u alike

pub if_some_map : {A : Type 0} (o : Option A) (P Q : A → Type 0) → ((x : A) → P x → Q x) → IfSome o P → IfSome o Q
if_some_map None P Q f is = tt
if_some_map (Some x) P Q f is = f x is
