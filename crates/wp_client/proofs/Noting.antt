-- What a seat noted of the keys of its client's transaction, as it goes on.
use Rattle.std.proofs.Common.{◌≡◌, inl, inr, ℕ, ◌≤◌, Bool, true, false, List, [], ◌∷◌, ◌++◌, length, Option, Some, None, refl, sym, subst, ap, ◌∙◌, arith}
use Rattle.std.specs.Prelude.{◌||◌, not, IfSome, if◌then◌else◌}
use Rattle.std.specs.List.{AllByRecursion, filter}
use Rattle.std.specs.Option.{option_or}
use Rattle.std.specs.Str.{bytes_eq}
use Rattle.std.proofs.lemmas.Bool.{cases_Bool, or_cases, or_left, or_right}
use Rattle.std.proofs.lemmas.Slice.Eq.{bytes_eq-Decides}
use Rattle.wp_model.specs.declared.change.Change.{Change}
use Rattle.wp_model.specs.Batch.{key_of, with_change}
use Rattle.wp_model.specs.History.{is_changed}
use Rattle.wp_model.specs.LockState.{is_among_keys}
use Rattle.wp_text.specs.declared.script.Command.{Command}
use Rattle.wp_text.specs.declared.reply.Reply.{Reply}
use Rattle.wp_core.specs.Lists.{IsIn}
use Rattle.wp_core.specs.Sound.Actors.{StartsWith}
use Rattle.wp_core.specs.Views.{Fact, unchanged}
use Rattle.wp_core.specs.World.{Participant}
use Rattle.wp_core.proofs.KeepsSeen.{shorter}
use Rattle.wp_shared.specs.Calls.{IsLoose, ContinuesWith, Continues}
use Rattle.wp_shared.specs.Seats.{SharedState, SeatState}
use Rattle.wp_open_txns.proofs.Keys.{changed_with}
use Rattle.wp_replies.specs.Txn.{Txn, Staged, Idle, Open, Prepared, is_its_key}
use Rattle.wp_replies.specs.Kind.{fresh_in}
use Rattle.wp_replies.specs.Progress.{ToldKey, Progress, is_told, with_key, with_behind, keys_after}
use Rattle.wp_client.specs.Answers.{IsNoted, HasNoted, AreNoted}

-- what was noted of the keys of the one is so of those of the other with the reply
abbrev pub KeepsNoted : SeatState → SeatState → Txn → Txn → Command → Reply → Type 0
KeepsNoted old new was now c r = (before : Progress) → before.last ≤ length old.knows.participant.seen → AreNoted old was before.keys → AreNoted new now (keys_after before c r)

-- ---- the keys that are told

-- with a fresh number they are the same
told_behind : (keys : List ToldKey) (fresh : Option ℕ) (key : List ℕ) → is_told (with_behind keys fresh) key ≡ is_told keys key
told_behind [] fresh key = refl
told_behind (k ∷ keys) fresh key = ap (λ (b : Bool). bytes_eq k.key key || b) (told_behind keys fresh key)

told_still : (keys more : List ToldKey) (key : List ℕ) → is_told keys key ≡ true → is_told (keys ++ more) key ≡ true
told_still [] more key is = absurd cc
told_still (k ∷ keys) more key is = elim (or_cases (bytes_eq k.key key) (is_told keys key) is) [
  | inl here ↦ or_left (bytes_eq k.key key) (is_told (keys ++ more) key) here
  | inr there ↦ or_right (bytes_eq k.key key) (is_told (keys ++ more) key) (told_still keys more key there)
]

told_last : (keys : List ToldKey) (k : ToldKey) (key : List ℕ) → bytes_eq k.key key ≡ true → is_told (keys ++ k ∷ []) key ≡ true
told_last [] k key is = or_left (bytes_eq k.key key) false is
told_last (x ∷ keys) k key is = or_right (bytes_eq x.key key) (is_told (keys ++ k ∷ []) key) (told_last keys k key is)

-- a key that comes is among them, and so is each that was
told_come : (keys : List ToldKey) (come : List ℕ) (told : ℕ) (key : List ℕ) → (bytes_eq come key || is_told keys key) ≡ true → is_told (with_key keys (Some come) told) key ≡ true
told_come keys come told key is =
    elim (cases_Bool (is_told keys come)) [
      | inl there ↦ elim (or_cases (bytes_eq come key) (is_told keys key) is) [
        | inl same ↦ let is_it : come ≡ key = (bytes_eq-Decides come key).0 same in rw there (subst (λ (x : List ℕ). is_told keys x ≡ true) is_it there)
        | inr also ↦ rw there also
      ]
      | inr new ↦ elim (or_cases (bytes_eq come key) (is_told keys key) is) [
        | inl same ↦ rw new (told_last keys (record { key = come; told = told; behind = None }) key same)
        | inr also ↦ rw new (told_still keys (record { key = come; told = told; behind = None } ∷ []) key also)
      ]
    ]

-- ---- what is noted of them

module _ (old new : SeatState) (name : List ℕ) (grown : StartsWith new.knows.participant.seen old.knows.participant.seen) (notes : (key : List ℕ) (n : ℕ) → IsIn (unchanged name key n) old.knows.notes → IsIn (unchanged name key n) new.knows.notes)
    (fresh : Option ℕ) (bound : IfSome fresh (λ n. length old.knows.participant.seen ≤ n)) where
  one_on : (k : ToldKey) → IsNoted old name k → IsNoted new name (record k { behind = option_or k.behind fresh })
  one_on k is = record {
    number = is.number;
    noted = notes k.key is.number is.noted;
    told = is.told;
    behind = later k.behind fresh is.behind bound;
    seen = let more = shorter new.knows.participant.seen old.knows.participant.seen grown in let low = is.seen in omega (arith, more, low);
  }
    where
      later : (behind number : Option ℕ) → IfSome behind (λ m. is.number ≤ m) → IfSome number (λ m. length old.knows.participant.seen ≤ m) → IfSome (option_or behind number) (λ m. is.number ≤ m)
      later (Some m) number b f = b
      later None None b f = tt
      later None (Some m) b f = let low = is.seen in omega (arith, low, f)

  each_on : (keys : List ToldKey) → AllByRecursion (IsNoted old name) keys → AllByRecursion (IsNoted new name) (with_behind keys fresh)
  each_on [] all = tt
  each_on (k ∷ keys) all = (one_on k all.0, each_on keys all.1)

  -- a key that comes is noted: so many entries were published as it was locked
  module _ (come : List ℕ) (number : ℕ) (noted : IsIn (unchanged name come number) new.knows.notes) (seen : number ≤ length new.knows.participant.seen) (first : IfSome fresh (λ n. number ≤ n)) where
    come_on : (keys : List ToldKey) (told : ℕ) → told ≤ number → AllByRecursion (IsNoted old name) keys → AllByRecursion (IsNoted new name) (with_behind (with_key keys (Some come) told) fresh)
    come_on keys told low all =
        elim (cases_Bool (is_told keys come)) [
          | inl there ↦ rw there (each_on keys all)
          | inr new_one ↦ rw new_one (added keys all)
        ]
      where
        added : (xs : List ToldKey) → AllByRecursion (IsNoted old name) xs → AllByRecursion (IsNoted new name) (with_behind (xs ++ record { key = come; told = told; behind = None } ∷ []) fresh)
        added [] all = (record { number = number; noted = noted; told = low; behind = first; seen = seen }, tt)
        added (x ∷ xs) all = (one_on x all.0, added xs all.1)

-- ---- a reply with which no key comes

still_noted : (old new : SeatState) (t : Txn) (keys : List ToldKey) (fresh : Option ℕ) → StartsWith new.knows.participant.seen old.knows.participant.seen → ((name key : List ℕ) (n : ℕ) → IsIn (unchanged name key n) old.knows.notes → IsIn (unchanged name key n) new.knows.notes)
    → IfSome fresh (λ n. length old.knows.participant.seen ≤ n) → AreNoted old t keys → AreNoted new t (with_behind keys fresh)
still_noted old new Idle keys fresh grown notes bound are = tt
still_noted old new (Open own) keys fresh grown notes bound are = record {
  each = each_on old new own.name grown (notes own.name) fresh bound keys are.each;
  all = λ key its. told_behind keys fresh key ∙ are.all key its;
}
still_noted old new (Prepared p) keys fresh grown notes bound are = tt

-- no key comes with the reply
abbrev pub ComesNone : Command → Reply → Type 0
ComesNone c r = (before : Progress) → keys_after before c r ≡ with_behind before.keys (fresh_in c r)

-- a fresh number of the reply is no less than what the seat had seen
abbrev pub IsLater : SeatState → Command → Reply → Type 0
IsLater old c r = IfSome (fresh_in c r) (λ n. length old.knows.participant.seen ≤ n)

-- among the facts that stay is that a key of an open transaction is unchanged
abbrev pub KeepsUnchanged : (Fact → Type 0) → Txn → Type 0
KeepsUnchanged Stays (Open own) = (name key : List ℕ) (n : ℕ) → Stays (unchanged name key n)
KeepsUnchanged Stays other = Unit {0}

pub noted_with : {D : Type 0} (Stays : Fact → Type 0) (z : SharedState D) (old new : SeatState) (after : Participant) → ContinuesWith Stays z old new after → (t : Txn) → KeepsUnchanged Stays t → (c : Command) (r : Reply) → ComesNone c r → IsLater old c r → KeepsNoted old new t t c r
noted_with Stays z old new after goes Idle keeps c r none later = λ before low are. tt
noted_with Stays z old new after goes (Open own) keeps c r none later = λ before low are.
    subst (AreNoted new (Open own)) (sym (none before)) (still_noted old new (Open own) before.keys (fresh_in c r) goes.seen (λ name key n. goes.notes (unchanged name key n) (keeps name key n)) later are)
noted_with Stays z old new after goes (Prepared p) keeps c r none later = λ before low are. tt

-- ... where each is kept that needs no turn
pub loose_unchanged : (t : Txn) → KeepsUnchanged IsLoose t
loose_unchanged Idle = tt
loose_unchanged (Open own) = λ name key n. refl
loose_unchanged (Prepared p) = tt

pub noted_still : {D : Type 0} (z : SharedState D) (old new : SeatState) (after : Participant) → Continues z old new after → (t : Txn) (c : Command) (r : Reply) → ComesNone c r → IsLater old c r → KeepsNoted old new t t c r
noted_still z old new after goes t = noted_with IsLoose z old new after goes t (loose_unchanged t)

-- ---- a reply with which a key comes

-- The key came with the reply: as it was locked so many entries were published, no fewer than the seat had seen, and no more than a fresh
-- number of the reply.
pub record Came (old new : SeatState) (name key : List ℕ) (fresh : Option ℕ) : Type 0 where
  pub number : ℕ
  pub noted : IsIn (unchanged name key number) new.knows.notes
  pub reached : length old.knows.participant.seen ≤ number
  pub seen : number ≤ length new.knows.participant.seen
  pub first : IfSome fresh (λ n. number ≤ n)

module _ {D : Type 0} (z : SharedState D) (old new : SeatState) (after : Participant) (goes : Continues z old new after) (name key : List ℕ) where
  -- the key came before, or it comes now
  pub noted_come : (own now : Staged) (c : Command) (r : Reply) → own.name ≡ name → now.name ≡ name → ((before : Progress) → keys_after before c r ≡ with_behind (with_key before.keys (Some key) before.last) (fresh_in c r)) → IsLater old c r
      → ((k : List ℕ) → is_its_key now k ≡ true → (bytes_eq key k || is_its_key own k) ≡ true) → (is_its_key own key ≡ false → Came old new name key (fresh_in c r)) → KeepsNoted old new (Open own) (Open now) c r
  noted_come own now c r own_is now_is comes later its came = λ before low are.
      subst (AreNoted new (Open now)) (sym (comes before)) (record {
        each = subst (λ (n : List ℕ). AllByRecursion (IsNoted new n) (with_behind (with_key before.keys (Some key) before.last) (fresh_in c r))) (sym now_is)
            (by before low are (subst (λ (n : List ℕ). AllByRecursion (IsNoted old n) before.keys) own_is are.each) (is_its_key own key) refl);
        all = λ k is. told_behind (with_key before.keys (Some key) before.last) (fresh_in c r) k ∙ told_come before.keys key before.last k (either before.keys k are.all (its k is));
      })
    where
      either : (keys : List ToldKey) (k : List ℕ) → ((x : List ℕ) → is_its_key own x ≡ true → is_told keys x ≡ true) → (bytes_eq key k || is_its_key own k) ≡ true → (bytes_eq key k || is_told keys k) ≡ true
      either keys k all is = elim (or_cases (bytes_eq key k) (is_its_key own k) is) [
        | inl same ↦ or_left (bytes_eq key k) (is_told keys k) same
        | inr had ↦ or_right (bytes_eq key k) (is_told keys k) (all k had)
      ]

      notes : (k : List ℕ) (n : ℕ) → IsIn (unchanged name k n) old.knows.notes → IsIn (unchanged name k n) new.knows.notes
      notes k n there = goes.notes (unchanged name k n) refl there

      by : (before : Progress) → before.last ≤ length old.knows.participant.seen → HasNoted old own before.keys → AllByRecursion (IsNoted old name) before.keys → (b : Bool) → is_its_key own key ≡ b
          → AllByRecursion (IsNoted new name) (with_behind (with_key before.keys (Some key) before.last) (fresh_in c r))
      by before low are each true had = let told = are.all key had in rw told (each_on old new name goes.seen notes (fresh_in c r) later before.keys each)
      by before low are each false new_one =
          let x = came new_one in let reached = x.reached in
          come_on old new name goes.seen notes (fresh_in c r) later key x.number x.noted x.seen x.first before.keys before.last (omega (arith, low, reached)) each

-- ---- the keys of an open transaction, with one more

still_among : (keeps : List ℕ → Bool) (keys : List (List ℕ)) (k : List ℕ) → is_among_keys (filter keeps keys) k ≡ true → is_among_keys keys k ≡ true
still_among keeps [] k is = is
still_among keeps (x ∷ keys) k is =
    elim (cases_Bool (keeps x)) [
      | inl kept ↦ let there : (bytes_eq x k || is_among_keys (filter keeps keys) k) ≡ true = rw kept at is in
          elim (or_cases (bytes_eq x k) (is_among_keys (filter keeps keys) k) there) [
            | inl here ↦ or_left (bytes_eq x k) (is_among_keys keys k) here
            | inr later ↦ or_right (bytes_eq x k) (is_among_keys keys k) (still_among keeps keys k later)
          ]
      | inr dropped ↦ or_right (bytes_eq x k) (is_among_keys keys k) (still_among keeps keys k (rw dropped at is))
    ]

among_more : (keys : List (List ℕ)) (key k : List ℕ) → is_among_keys (keys ++ key ∷ []) k ≡ true → (bytes_eq key k || is_among_keys keys k) ≡ true
among_more [] key k is = is
among_more (x ∷ keys) key k is = elim (or_cases (bytes_eq x k) (is_among_keys (keys ++ key ∷ []) k) is) [
  | inl here ↦ or_right (bytes_eq key k) (bytes_eq x k || is_among_keys keys k) (or_left (bytes_eq x k) (is_among_keys keys k) here)
  | inr later ↦ elim (or_cases (bytes_eq key k) (is_among_keys keys k) (among_more keys key k later)) [
    | inl same ↦ or_left (bytes_eq key k) (bytes_eq x k || is_among_keys keys k) same
    | inr there ↦ or_right (bytes_eq key k) (bytes_eq x k || is_among_keys keys k) (or_right (bytes_eq x k) (is_among_keys keys k) there)
  ]
]

-- with a change more
pub its_with_change : (own : Staged) (change : Change) (k : List ℕ) → (is_changed (with_change own.batch change) k || is_among_keys (filter (λ x. not (bytes_eq x (key_of change))) own.locked) k) ≡ true → (bytes_eq (key_of change) k || is_its_key own k) ≡ true
its_with_change own change k is = elim (or_cases (is_changed (with_change own.batch change) k) (is_among_keys (filter (λ x. not (bytes_eq x (key_of change))) own.locked) k) is) [
  | inl changed ↦ elim (or_cases (bytes_eq (key_of change) k) (is_changed own.batch k) (sym (changed_with own.batch change k) ∙ changed)) [
    | inl same ↦ or_left (bytes_eq (key_of change) k) (is_its_key own k) same
    | inr had ↦ or_right (bytes_eq (key_of change) k) (is_its_key own k) (or_left (is_changed own.batch k) (is_among_keys own.locked k) had)
  ]
  | inr among ↦ or_right (bytes_eq (key_of change) k) (is_its_key own k) (or_right (is_changed own.batch k) (is_among_keys own.locked k) (still_among (λ x. not (bytes_eq x (key_of change))) own.locked k among))
]

-- with a key more that is locked
pub its_with_locked : (own : Staged) (key k : List ℕ) → (is_changed own.batch k || is_among_keys (if is_among_keys own.locked key then own.locked else own.locked ++ key ∷ []) k) ≡ true → (bytes_eq key k || is_its_key own k) ≡ true
its_with_locked own key k is = elim (cases_Bool (is_among_keys own.locked key)) [
  | inl had ↦ or_right (bytes_eq key k) (is_its_key own k) (rw had at is)
  | inr new ↦ elim (or_cases (is_changed own.batch k) (is_among_keys (own.locked ++ key ∷ []) k) (rw new at is)) [
    | inl changed ↦ or_right (bytes_eq key k) (is_its_key own k) (or_left (is_changed own.batch k) (is_among_keys own.locked k) changed)
    | inr among ↦ elim (or_cases (bytes_eq key k) (is_among_keys own.locked k) (among_more own.locked key k among)) [
      | inl same ↦ or_left (bytes_eq key k) (is_its_key own k) same
      | inr there ↦ or_right (bytes_eq key k) (is_its_key own k) (or_right (is_changed own.batch k) (is_among_keys own.locked k) there)
    ]
  ]
]
