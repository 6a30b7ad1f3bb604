use Rattle.std.proofs.Common.{◌≡◌, ℕ, ◌+◌, ◌-◌, ◌^◌, ◌≤◌, min, List, length, take, drop, inl, inr, sym, ap, ◌∙◌, arith, rules, length-drop}
use Rattle.std.proofs.lemmas.Bool.{cases_eq}
use Rattle.std.proofs.lemmas.List.{drop-drop, drop-take, take_all}
use Rattle.wp_gatelog.proofs.piece.Piece.pass.Goals as goal

-- behind some bytes a reach is kept, or all where it is more than a number can say
passed : (bytes : List ℕ) (from len reach end : ℕ) → end ≡ min (from + len + reach) (2 ^ 64 - 1) → length bytes ≤ 2 ^ 64 - 1 → drop (from + len) (take end bytes) ≡ take reach (drop len (drop from bytes))
passed bytes from len reach end is fits = elim (cases_eq end (from + len + reach)) [
  | inl same ↦ ap (λ (n : ℕ). drop (from + len) (take n bytes)) same ∙ drop-take (from + len) reach bytes ∙ ap (λ (l : List ℕ). take reach l) (sym (drop-drop len from bytes))
  | inr less ↦ ap (λ (l : List ℕ). drop (from + len) l) (take_all end bytes (omega (arith, is, fits, less)))
      ∙ sym (take_all reach (drop (from + len) bytes) (omega (arith, is, fits, less, length-drop (from + len) bytes))) ∙ ap (λ (l : List ℕ). take reach l) (sym (drop-drop len from bytes))
]

pub returns : goal.returns
returns c =
    let bytes : List ℕ = c.self.inside.bytes.items in
    let size : c.self.inside.bytes.len ≡ length bytes = search rules in
    ap (λ (l : List ℕ). drop (c.self.inside.from + c.args.len) l) c.truncate.ensures.items
    ∙ passed bytes c.self.inside.from c.args.len c.args.reach c.saturating_add.result c.saturating_add.ensures (omega (arith, size))
    ∙ ap (λ (l : List ℕ). take c.args.reach (drop c.args.len l)) c.self.view_is
