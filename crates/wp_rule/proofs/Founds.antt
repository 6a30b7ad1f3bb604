-- A table that is made of the parts of an opening world shows that world.
use Rattle.std.specs.Prelude.{All}
use Rattle.std.proofs.Common.{◌≡◌, ℕ, zero, suc, ◌+◌, true, List, [], ◌∷◌, ◌++◌, length, map, replicate, refl, sym, subst, ap, ◌∙◌, Option, Some, None, arith}
use Rattle.std.proofs.lemmas.List.{length-map}
use mathlib.Core.Option.{some}
use lib.ListN.{get_elem?}
use Rattle.atomic_table.specs.Table.{opening}
use Rattle.atomic_table.proofs.Lists.{at_map}
use Rattle.wp_model.specs.declared.entry.Entry.{Entry}
use Rattle.wp_core.specs.Turns.{Turn, write_turn, prepared_turn, snapshots_turn, store_turn, locks_turn, tables_turn, Holders, turn_holder, all_free}
use Rattle.wp_core.specs.States.{Content}
use Rattle.wp_core.specs.World.{Actor, new_actor, content_of}
use Rattle.wp_core.specs.Changes.{turn_index}
use Rattle.wp_core.specs.Runs.{stays}
use Rattle.wp_rule.specs.Words.{turn_words, lines_of, words_of, last_edit_in, last_edit_of, first_edit_of, SawAll}
use Rattle.wp_rule.specs.Shows.{WasLast, Rests, Shows, Founds}

none_held : (turn : Turn) → turn_holder all_free turn ≡ None
none_held write_turn = refl
none_held prepared_turn = refl
none_held snapshots_turn = refl
none_held store_turn = refl
none_held locks_turn = refl
none_held tables_turn = refl

zeros : (xs : List ℕ) → All (λ x. x ≡ 0) xs → xs ≡ replicate (length xs) 0
zeros [] all = refl
zeros (x ∷ xs) all = λ i. all 0 0 (omega arith) i ∷ zeros xs (λ k d low. all (suc k) d (omega arith)) i

more : (m n : ℕ) → replicate {A = ℕ} m 0 ++ replicate n 0 ≡ replicate (m + n) 0
more zero n = let same : n ≡ 0 + n = omega arith in ap (λ k. replicate k 0) same
more (suc m) n = let same : suc (m + n) ≡ suc m + n = omega arith in ap (λ (xs : List ℕ). 0 ∷ xs) (more m n) ∙ ap (λ k. replicate k 0) same

module _ {S : Type 0} (content : S → Option Content) (tells : S → Type 0) where
  -- the world begins with the last edit of the tables' value
  began : {client : List ℕ} {opened : List Entry} {cells flag : ℕ} (slots : List S) (f : Founds content tells client opened cells flag slots) → WasLast content slots f.world.first_edit
  began slots f = let p = f.parts tables_turn in ap (last_edit_of content) p.1 ∙ (ap last_edit_in p.2.0 ∙ ap Some f.opening.first_edit)

  pub founds : (client : List ℕ) (opened : List Entry) (cells flag : ℕ) (slots first : List S) (words : List ℕ) → Founds content tells client opened cells flag slots → first ≡ slots
      → words ≡ length opened ∷ length opened ∷ flag ∷ replicate (cells + 53) 0 → Shows content tells first opened cells (opening words slots (new_actor true client opened))
  founds client opened cells flag slots first words f same is =
      let w = f.world in let o = f.opening in
      let cache : w.cache ≡ replicate cells 0 = zeros w.cache o.cache ∙ ap (λ n. replicate n 0) f.cells_are in
      let front : length w.writes.history ∷ w.max_evicted ∷ w.delayed_flag ∷ w.old_flag ∷ [] ≡ length opened ∷ length opened ∷ flag ∷ 0 ∷ [] =
      λ i. ap (λ (h : List Entry). length h) (o.history ∙ f.opened_is) i ∷ (o.max_evicted ∙ ap (λ (h : List Entry). length h) f.opened_is) i ∷ f.flag_is i ∷ o.old_flag i ∷ [] in
      let lines : lines_of (turn_words w.holders) ≡ replicate 48 0 = λ i. lines_of (turn_words (o.holders i)) in
      let behind : 0 ∷ 0 ∷ 0 ∷ 0 ∷ (lines_of (turn_words w.holders) ++ w.cache) ≡ replicate 52 0 ++ replicate cells 0 = λ i. 0 ∷ 0 ∷ 0 ∷ 0 ∷ (lines i ++ cache i) in
      let same_count : suc (52 + cells) ≡ cells + 53 = omega arith in
      let all : words_of w ≡ length opened ∷ length opened ∷ flag ∷ replicate (cells + 53) 0 =
      (λ i. front i ++ behind i) ∙ (ap (λ (zeros : List ℕ). length opened ∷ length opened ∷ flag ∷ 0 ∷ zeros) (more 52 cells) ∙ ap (λ n. length opened ∷ length opened ∷ flag ∷ replicate n 0) same_count) in record {
        world = w;
        reached = (w, o, stays);
        opened_is = f.opened_is;
        cells_are = f.cells_are;
        first_edit = ap (first_edit_of content) same ∙ began slots f;
        words = is ∙ sym all;
        deep = length-map slots some ∙ f.deep;
        rests = λ turn. let p = f.parts turn in
            subst (λ (h : Option ℕ). Rests content tells h (content_of w turn) (get_elem? (map some slots) (turn_index turn))) (sym (ap (λ (h : Holders). turn_holder h turn) o.holders ∙ none_held turn)) (p.0, at_map some slots (turn_index turn) p.0 p.1, p.2);
        views = sym f.actors_are;
      }

  -- its first seat has seen the history that is opened
  pub opening_seen : (client : List ℕ) (opened : List Entry) (cells flag : ℕ) (slots : List S) → Founds content tells client opened cells flag slots → SawAll (record { opened = opened; cells = cells; first_edit = first_edit_of content slots; by = 0 }) (new_actor true client opened) (length opened)
  opening_seen client opened cells flag slots f =
      let w = f.world in let o = f.opening in let history : w.writes.history ≡ opened = o.history ∙ f.opened_is in record {
        world = w;
        there = record { reached = (w, o, stays); opened = f.opened_is; cells = f.cells_are; first_edit = began slots f; there = ap (λ (actors : List Actor). get_elem? actors 0) f.actors_are };
        number = ap (λ (h : List Entry). length h) (sym history);
        seen = history;
      }
