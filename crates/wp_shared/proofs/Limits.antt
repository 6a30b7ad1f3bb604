-- What the limit of a store is, by the base of its log.
use Rattle.std.proofs.Common.{◌≡◌, ◌⊎◌, inl, inr, ℕ, ◌<◌, ◌≤◌, ◌==◌, min, Bool, Option, None, Some, if◌then◌else◌, refl, sym, ap, ◌∙◌, arith, eq-eqb, ne_eqb}
use Rattle.std.proofs.lemmas.Bool.{cases_Bool}
use Rattle.wp_fields.specs.declared.format.Format.TheVariants.{Two}
use Rattle.wp_entry.specs.Record.{last_number}
use Rattle.wp_wal.specs.Wal.{WalState}
use Rattle.wp_parts.specs.Log.{format_at}
use Rattle.wp_parts.specs.Parts.{log_first}
use Rattle.wp_shared.specs.Limits.{WasOpenedAt, least_at, least_opened, limit_at, opened_limit, renewed_limit}
use Rattle.wp_shared.specs.Seats.{SharedState}

-- by whether the base is that of the opening
abbrev by_test : ℕ → WalState → Bool → ℕ
by_test limit first b = min limit (last_number (if b then first.format else Two))

within : (limit : ℕ) (first : Option WalState) (base : ℕ) → least_at limit first base ≤ limit
within limit None base = omega arith
within limit (Some first) base = omega arith

either : (limit : ℕ) (first : Option WalState) (base : ℕ) → (least_at limit first base ≡ least_opened limit first) ⊎ (least_at limit first base ≡ min limit (last_number Two))
either limit None base = inl refl
either limit (Some first) base = elim (cases_Bool (base == first.segment.base)) [
  | inl same ↦ inl (ap (by_test limit first) same)
  | inr other ↦ inr (ap (by_test limit first) other)
]

module _ {D : Type 0} (z : SharedState D) where
  -- by the version of the log
  pub limit_is : (first : WalState) (base : ℕ) → log_first z.first ≡ Some first → limit_at z base ≡ min z.limit (last_number (format_at first base))
  limit_is first base is = ap (λ (o : Option WalState). least_at z.limit o base) is

  -- it is never above the one that was asked for
  pub limit_within : (base : ℕ) → limit_at z base ≤ z.limit
  limit_within base = within z.limit (log_first z.first) base

  -- it is that of the opening, or of a renewed log
  pub limit_either : (base : ℕ) → (limit_at z base ≡ opened_limit z) ⊎ (limit_at z base ≡ renewed_limit z)
  limit_either base = either z.limit (log_first z.first) base

  module _ (base : ℕ) (was : WasOpenedAt z base) where
    by_first : (next : ℕ) → limit_at z next ≡ by_test z.limit was.0 (next == was.0.segment.base)
    by_first next = ap (λ (o : Option WalState). least_at z.limit o next) was.1

    pub limit_opened : limit_at z base ≡ opened_limit z
    limit_opened = by_first base ∙ (ap (by_test z.limit was.0) (eq-eqb base was.0.segment.base (sym was.2)) ∙ sym (ap (least_opened z.limit) was.1))

    pub limit_renewed : (next : ℕ) → base < next → limit_at z next ≡ renewed_limit z
    limit_renewed next above = by_first next ∙ ap (by_test z.limit was.0) (ne_eqb next was.0.segment.base (λ same. omega (arith, above, same, was.2)))
