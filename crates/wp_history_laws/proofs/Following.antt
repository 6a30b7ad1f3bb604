-- Lists in which each entry may follow those before it, and how they grow.
use Rattle.std.proofs.Common.{◌≡◌, ℕ, ◌<◌, List, [], ◌∷◌, ◌++◌, length, take, drop, Some, sym, ap, ◌∙◌, subst, inl, inr, append_assoc, length-append, arith}
use Rattle.std.specs.Prelude.{slice_get}
use Rattle.std.proofs.Math.Seq.{take-append_seam}
use Rattle.std.proofs.lemmas.Bool.{cases_lt}
use Rattle.std.proofs.lemmas.List.{append-nil, take-append-le, take-append-drop}
use Rattle.std.proofs.lemmas.Option.{slice_get_within}
use Rattle.wp_model.specs.declared.entry.Entry.{Entry}
use Rattle.wp_model.proofs.Entries.{slice_get_old, slice_get_next}

module _ (Next : List Entry → Entry → Type 0) where
  abbrev pub Follow : List Entry → Type 0
  Follow history = (n : ℕ) (entry : Entry) → slice_get history n ≡ Some entry → Next (take n history) entry

  pub follow_none : Follow []
  follow_none n entry at = absurd cc

  pub follows : (history : List Entry) (entry : Entry) (more : List Entry) → Follow (history ++ entry ∷ more) → Next history entry
  follows history entry more follow =
      let P : List Entry → Type 0 = λ before. Next before entry in
      subst P (take-append_seam history (entry ∷ more)) (follow (length history) entry (slice_get_next history entry more))

  pub follow_front : (history more : List Entry) → Follow (history ++ more) → Follow history
  follow_front history more follow n entry at =
      let lt : n < length history = slice_get_within history n entry at in
      let P : List Entry → Type 0 = λ before. Next before entry in
      subst P (take-append-le n history more (omega arith)) (follow n entry (slice_get_old history more n lt ∙ at))

  pub follow_take : (n : ℕ) (history : List Entry) → Follow history → Follow (take n history)
  follow_take n history follow = follow_front (take n history) (drop n history) (subst Follow (sym (take-append-drop n history)) follow)

  pub follow_next : (history : List Entry) (entry : Entry) → Follow history → Next history entry → Follow (history ++ entry ∷ [])
  follow_next history entry follow after n other at =
      let P : List Entry → Type 0 = λ before. Next before other in
      let within : n < length (history ++ entry ∷ []) = slice_get_within (history ++ entry ∷ []) n other at in
      elim (cases_lt n (length history)) [
        | inl lt ↦ subst P (sym (take-append-le n history (entry ∷ []) (omega arith))) (follow n other (sym (slice_get_old history (entry ∷ []) n lt) ∙ at))
        | inr le ↦
            let same : n ≡ length history = omega (arith, length-append history (entry ∷ [])) in
            let it : Some entry ≡ Some other = sym (slice_get_next history entry []) ∙ ap (slice_get (history ++ entry ∷ [])) (sym same) ∙ at in
            let front : history ≡ take n (history ++ entry ∷ []) = sym (take-append_seam history (entry ∷ [])) ∙ ap (λ (m : ℕ). take m (history ++ entry ∷ [])) (sym same) in
            let Q : Entry → Type 0 = λ (e : Entry). Next history e in
            let its : entry ≡ other = cc in
            subst P front (subst Q its after)
      ]

  pub grow_from : (P : List Entry → Type 0) → ((history : List Entry) (entry : Entry) → Follow history → Next history entry → P history → P (history ++ entry ∷ []))
      → (done more : List Entry) → Follow (done ++ more) → P done → P (done ++ more)
  grow_from P step done [] follow p = subst P (sym (append-nil done)) p
  grow_from P step done (entry ∷ more) follow p =
      let regrouped : (done ++ entry ∷ []) ++ more ≡ done ++ entry ∷ more = append_assoc done (entry ∷ []) more in
      let whole : Follow ((done ++ entry ∷ []) ++ more) = subst Follow (sym regrouped) follow in
      let next : P (done ++ entry ∷ []) = step done entry (follow_front done (entry ∷ more) follow) (follows done entry more follow) p in
      subst P regrouped (grow_from P step (done ++ entry ∷ []) more whole next)

  pub by_following : (P : List Entry → Type 0) → P [] → ((history : List Entry) (entry : Entry) → Follow history → Next history entry → P history → P (history ++ entry ∷ []))
      → (history : List Entry) → Follow history → P history
  by_following P base step history follow = grow_from P step [] history follow base
