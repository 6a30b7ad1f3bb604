-- Each store of a word is a step of the machine, and what it ends is noted again.
use Rattle.std.proofs.Common.{◌≡◌, ℕ, suc, ◌+◌, ◌<◌, true, List, [], ◌∷◌, ◌++◌, length, get_or, set, refl, sym, subst, ap, ◌∙◌, Option, Some, length-append, length-set, arith}
use Rattle.std.proofs.lemmas.Bool.{true_from_ne_false}
use Rattle.wp_model.specs.declared.entry.Entry.{Entry}
use Rattle.wp_judge.specs.Words.{CommitPair, word_of}
use Rattle.wp_core.specs.Lists.{IsIn}
use Rattle.wp_core.specs.Cache.{cache_place, with_pair}
use Rattle.wp_core.specs.States.{WriteState, Content, writes, prepared, with_moved}
use Rattle.wp_core.specs.Turns.{Turn, write_turn, prepared_turn, snapshots_turn, Holds}
use Rattle.wp_core.specs.Views.{Fact, words_stay, delayed_flag_stays, old_flag_stays}
use Rattle.wp_core.specs.World.{Actor, World}
use Rattle.wp_core.specs.Steps.{Step, store_published, store_max_evicted, store_word, store_delayed_flag, store_old_flag, note}
use Rattle.wp_core.specs.Effects.{with_entry}
use Rattle.wp_core.specs.Needs.{Needs}
use Rattle.wp_core.proofs.Quiet.{holder_lives}
use Rattle.wp_rule.specs.Words.{Place, IsAt, words_of, lines_of, turn_words, word_place, IsWordOf, word_in}
use Rattle.wp_rule.specs.declared.word.Word.{Word}
use Rattle.wp_rule.specs.declared.word.Word.TheVariants.{Max, Cell, DelayedFlag, OldFlag}
use Rattle.wp_rule.specs.Moves.{world_after_step, actor_after_step, MayStep, LeadTo, MayStore, MayPublishAs, Leave, publishing, storing, storing_max}
use Rattle.wp_rule.proofs.Knows.{at_sound, held_is}
use Rattle.wp_rule.proofs.Needed.{guarded}
use Rattle.wp_rule.proofs.Quiet.{same_contents, others_stay, quiet_step, both, there_after, reached_next}

-- ---- the words of the cache

cell_in : (front cache : List ℕ) (i : ℕ) → get_or (front ++ cache) (length front + i) 0 ≡ get_or cache i 0
cell_in [] cache i = let n : 0 + i ≡ i = omega arith in ap (λ k. get_or cache k 0) n
cell_in (x ∷ front) cache i = let n : suc (length front) + i ≡ suc (length front + i) = omega arith in ap (λ k. get_or (x ∷ (front ++ cache)) k 0) n ∙ cell_in front cache i

cell_set : (front cache : List ℕ) (i x : ℕ) → set (front ++ cache) (length front + i) x ≡ front ++ set cache i x
cell_set [] cache i x = let n : 0 + i ≡ i = omega arith in ap (λ k. set cache k x) n
cell_set (y ∷ front) cache i x = let n : suc (length front) + i ≡ suc (length front + i) = omega arith in ap (λ k. set (y ∷ (front ++ cache)) k x) n ∙ ap (λ l. y ∷ l) (cell_set front cache i x)

abbrev front_of : World → List ℕ
front_of w = length w.writes.history ∷ w.max_evicted ∷ w.delayed_flag ∷ w.old_flag ∷ 0 ∷ 0 ∷ 0 ∷ 0 ∷ lines_of (turn_words w.holders)

pub cell_at : (w : World) (i : ℕ) → get_or (words_of w) (56 + i) 0 ≡ get_or w.cache i 0
cell_at w i = cell_in (front_of w) w.cache i

-- each word is what the world has there
pub word_at : (w : World) (word : Word) → get_or (words_of w) (word_place word) 0 ≡ word_in word w
word_at w Max = refl
word_at w (Cell i) = cell_at w i
word_at w DelayedFlag = refl
word_at w OldFlag = refl

pub word_within : (cells words : ℕ) (word : Word) → words ≡ cells + 56 → IsWordOf cells word → word_place word < words
word_within cells words Max is low = omega (arith, is)
word_within cells words (Cell i) is low = omega (arith, is, low)
word_within cells words DelayedFlag is low = omega (arith, is)
word_within cells words OldFlag is low = omega (arith, is)

cell_stored : (w : World) (i x : ℕ) → set (words_of w) (56 + i) x ≡ front_of w ++ set w.cache i x
cell_stored w i x = cell_set (front_of w) w.cache i x

-- ---- a store, and then a note

pub holder_is_live : (p : Place) (a : Actor) (w : World) (turn : Turn) → IsAt p a w → Holds w.holders turn p.by → a.live ≡ true
holder_is_live p a w turn k holds = true_from_ne_false a.live (holder_lives w p.by a turn k.there holds (at_sound p a w k))

then_noted : (p : Place) (a : Actor) (w : World) (step : Step) (fact : Fact) (words : List ℕ) → IsAt p a w → Needs w p.by a step → Leave p.by w words (world_after_step w p.by a step) (actor_after_step w a step)
    → Needs (world_after_step w p.by a step) p.by (actor_after_step w a step) (note fact) → LeadTo p a w (step ∷ note fact ∷ []) words
then_noted p a w step fact words k needs l noting =
    let next : World = world_after_step w p.by a step in let b : Actor = actor_after_step w a step in (
      (needs, (noting, tt)),
      reached_next next p.by b (note fact) (there_after w next p.by a b words k.there l) (reached_next w p.by a step k.there k.reached needs) noting,
      both w next (world_after_step next p.by b (note fact)) p.by b (actor_after_step next b (note fact)) words l (quiet_step next p.by b (note fact) tt noting),
    )

-- ---- what a seat may store

pub may_max : (p : Place) (a : Actor) (m : ℕ) → MayStep p a (store_max_evicted m) → MayStore p a (storing_max m) 1 m
may_max p a m may w k =
    let n = may w k in let v : World = record w { max_evicted = m } in let t : Content = prepared (with_moved w.prepared m) in
    let b : Actor = actor_after_step w a (store_max_evicted m) in
    then_noted p a w (store_max_evicted m) (words_stay m w.cache) (set (words_of w) 1 m) k n
    (record { words_are = refl; opened = refl; first_edit = refl; cells = refl; holders = refl; contents = λ turn free. others_stay v p.by b t turn n.1 free ∙ same_contents w v refl refl refl refl refl refl turn; actors = refl })
    (holder_is_live p a w write_turn k n.0, guarded p a w k write_turn n.0, (refl, refl))

pub may_delayed : (p : Place) (a : Actor) (value : ℕ) → MayStep p a (store_delayed_flag value) → MayStore p a (λ w. store_delayed_flag value ∷ note (delayed_flag_stays value) ∷ []) 2 value
may_delayed p a value may w k =
    let n = may w k in let next : World = world_after_step w p.by a (store_delayed_flag value) in
    then_noted p a w (store_delayed_flag value) (delayed_flag_stays value) (set (words_of w) 2 value) k n
    (record { words_are = refl; opened = refl; first_edit = refl; cells = refl; holders = refl; contents = λ turn free. same_contents w next refl refl refl refl refl refl turn; actors = refl })
    (holder_is_live p a w prepared_turn k n.0, guarded p a w k prepared_turn n.0, refl)

pub may_old : (p : Place) (a : Actor) (value : ℕ) → MayStep p a (store_old_flag value) → MayStore p a (λ w. store_old_flag value ∷ note (old_flag_stays value) ∷ []) 3 value
may_old p a value may w k =
    let n = may w k in let next : World = world_after_step w p.by a (store_old_flag value) in
    then_noted p a w (store_old_flag value) (old_flag_stays value) (set (words_of w) 3 value) k n
    (record { words_are = refl; opened = refl; first_edit = refl; cells = refl; holders = refl; contents = λ turn free. same_contents w next refl refl refl refl refl refl turn; actors = refl })
    (holder_is_live p a w snapshots_turn k n.0, guarded p a w k snapshots_turn n.0, refl)

pub may_word : (p : Place) (a : Actor) (i word : ℕ) (pair : CommitPair) (found : Option CommitPair) → word ≡ word_of p.cells pair → found ≡ Some pair → i ≡ cache_place p.cells pair.number → MayStep p a (store_word pair)
    → MayStore p a (storing found) (56 + i) word
may_word p a i word pair found is back place may w k =
    let n = may w k in let next : World = world_after_step w p.by a (store_word pair) in
    let at_place : i ≡ cache_place (length w.cache) pair.number = place ∙ ap (λ n. cache_place n pair.number) (sym k.cells) in
    let packed : word ≡ word_of (length w.cache) pair = is ∙ ap (λ n. word_of n pair) (sym k.cells) in
    let same : set w.cache i word ≡ with_pair w.cache pair = λ j. set w.cache (at_place j) (packed j) in
    subst (λ (x : Option CommitPair). LeadTo p a w (storing x w) (set (words_of w) (56 + i) word)) (sym back)
    (then_noted p a w (store_word pair) (words_stay w.max_evicted (with_pair w.cache pair)) (set (words_of w) (56 + i) word) k n
    (record {
      words_are = sym (cell_stored w i word ∙ ap (λ (cache : List ℕ). front_of w ++ cache) same);
      opened = refl;
      first_edit = refl;
      cells = length-set w.cache (cache_place (length w.cache) pair.number) (word_of (length w.cache) pair);
      holders = refl;
      contents = λ turn free. same_contents w next refl refl refl refl refl refl turn;
      actors = refl;
    })
    (holder_is_live p a w write_turn k n.0, guarded p a w k write_turn n.0, (refl, refl)))

abbrev writes_or : WriteState → Content → WriteState
writes_or t (writes d) = d
writes_or t other = t

-- the state of the write turn that a view has is the world's
pub same_writes : (p : Place) (a : Actor) (w : World) (t : WriteState) → IsAt p a w → IsIn (writes t) a.held → w.writes ≡ t
same_writes p a w t k held = ap (writes_or t) (held_is p a w (writes t) k held).1

pub may_publish : (p : Place) (a : Actor) (number : ℕ) → MayPublishAs p a number → MayStore p a (λ w. publishing w.writes.pending) 0 number
may_publish p a number m w k =
    let same : w.writes ≡ m.state = same_writes p a w m.state k m.held in
    let step : Step = store_published m.entry m.others in let n = m.may w k in
    let b : Actor = actor_after_step w a step in let t : Content = writes (with_entry w.writes m.entry m.others) in
    let l = length-append w.writes.history (m.entry ∷ []) in let q : length w.writes.history ≡ length m.state.history = ap (λ (x : WriteState). length x.history) same in
    let counts : length (w.writes.history ++ m.entry ∷ []) ≡ number = l ∙ (let i = m.number_is in omega (arith, q, i)) in
    subst (λ (entries : List Entry). LeadTo p a w (publishing entries) (set (words_of w) 0 number)) (sym (ap (λ (x : WriteState). x.pending) same ∙ m.pending)) (
      (n, tt),
      reached_next w p.by a step k.there k.reached n,
      record {
        words_are = ap (λ (x : ℕ). x ∷ w.max_evicted ∷ w.delayed_flag ∷ w.old_flag ∷ 0 ∷ 0 ∷ 0 ∷ 0 ∷ (lines_of (turn_words w.holders) ++ w.cache)) counts;
        opened = refl;
        first_edit = refl;
        cells = refl;
        holders = refl;
        contents = λ turn free. others_stay w p.by b t turn n.turn free;
        actors = refl;
      },
    )
