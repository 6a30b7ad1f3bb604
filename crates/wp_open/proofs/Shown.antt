-- Tables that a device showed one after another.
use Rattle.std.specs.Prelude.{⊤}
use Rattle.std.proofs.Common.{◌≡◌, ℕ, List, [], ◌∷◌, ◌++◌, length, sym, ◌∙◌, ap, subst, arith, append_assoc, length-append}
use Rattle.wp_model.specs.declared.version.Version.{Version}
use Rattle.wp_outside.specs.Disk.{Moment, IfKnown, Goes}
use Rattle.wp_gatelog.proofs.MomentLemmas.{known_map}
use Rattle.wp_table.specs.File.{HasTable, HasTables}
use Rattle.wp_refused.specs.Shown.{Sometime, WereShown}

pub sometime_later : (P : Moment → Type 0) (old mid new : List Moment) → Goes (λ m. ⊤) mid new → Sometime P old mid → Sometime P old new
sometime_later P old [] new goes s = record { later = s.later; since = s.since; came = goes ∙ s.came; held = s.held }
sometime_later P old (m ∷ past) new goes s = record {
  later = goes.0 ++ s.later;
  since = s.since;
  came = goes.1 ∙ ap (λ (ms : List Moment). goes.0 ++ ms) s.came ∙ sym (append_assoc goes.0 s.later (s.since ++ old));
  held = s.held;
}

pub sometime_now : (P : Moment → Type 0) (old new : List Moment) → Goes (λ m. ⊤) old new → IfKnown new P → Sometime P old new
sometime_now P [] new goes known = record { later = []; since = []; came = goes; held = tt }
sometime_now P (m ∷ past) new goes known = record {
  later = [];
  since = goes.0;
  came = goes.1;
  held = subst (λ (ms : List Moment). IfKnown ms P) goes.1 known;
}

pub sometime_map : (P Q : Moment → Type 0) → ((m : Moment) → P m → Q m) → (old new : List Moment) → Sometime P old new → Sometime Q old new
sometime_map P Q f old new s = record { later = s.later; since = s.since; came = s.came; held = known_map P Q f (s.since ++ old) s.held }

pub sometime_alone : (P : Moment → Type 0) (m : Moment) (past new : List Moment) → new ≡ m ∷ past → Sometime P (m ∷ past) new → P m
sometime_alone P m past new same s = by s.since (sym same ∙ s.came) s.held
  where
    by : (since : List Moment) → m ∷ past ≡ s.later ++ (since ++ m ∷ past) → IfKnown (since ++ m ∷ past) P → P m
    by [] is held = held
    by (x ∷ xs) is held = absurd (omega (arith, ap length is, length-append s.later (x ∷ xs ++ m ∷ past), length-append (x ∷ xs) (m ∷ past)))

module _ (id flushed : ℕ) where
  pub shown_later : (old mid new : List Moment) → Goes (λ m. ⊤) mid new → (places : List (ℕ × ℕ)) (parts : List (List Version)) → WereShown id flushed old mid places parts → WereShown id flushed old new places parts
  shown_later old mid new goes [] [] shown = tt
  shown_later old mid new goes [] (part ∷ parts) shown = absurd shown
  shown_later old mid new goes (placed ∷ places) [] shown = absurd shown
  shown_later old mid new goes (placed ∷ places) (part ∷ parts) shown =
      (sometime_later (λ m. HasTable id flushed m.reads placed part) old mid new goes shown.0, shown_later old mid new goes places parts shown.1)

  pub shown_push : (old new : List Moment) (places : List (ℕ × ℕ)) (parts : List (List Version)) (placed : ℕ × ℕ) (versions : List Version) → WereShown id flushed old new places parts
      → Sometime (λ m. HasTable id flushed m.reads placed versions) old new → WereShown id flushed old new (places ++ placed ∷ []) (parts ++ versions ∷ [])
  shown_push old new [] [] placed versions shown one = (one, tt)
  shown_push old new [] (part ∷ parts) placed versions shown one = absurd shown
  shown_push old new (place ∷ places) [] placed versions shown one = absurd shown
  shown_push old new (place ∷ places) (part ∷ parts) placed versions shown one = (shown.0, shown_push old new places parts placed versions shown.1 one)

  -- where no moment came, all stand there
  pub shown_alone : (old new : List Moment) → new ≡ old → (places : List (ℕ × ℕ)) (parts : List (List Version)) → WereShown id flushed old new places parts → IfKnown old (λ m. HasTables id flushed m.reads places parts)
  shown_alone [] new same places parts shown = tt
  shown_alone (m ∷ past) new same places parts shown = by places parts shown
    where
      by : (places : List (ℕ × ℕ)) (parts : List (List Version)) → WereShown id flushed (m ∷ past) new places parts → HasTables id flushed m.reads places parts
      by [] [] h = tt
      by [] (part ∷ parts) h = absurd h
      by (placed ∷ places) [] h = absurd h
      by (placed ∷ places) (part ∷ parts) h = (sometime_alone (λ n. HasTable id flushed n.reads placed part) m past new same h.0, by places parts h.1)
