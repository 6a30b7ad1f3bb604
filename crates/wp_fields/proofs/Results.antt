-- What a step of reading, and the step after it, say of each other.
use Rattle.std.proofs.Common.{◌≡◌, Bool, true, false, cond, Result, Ok, Err, refl, ap, inl, inr, ◌⊎◌}
use Rattle.wp_fields.specs.Reading.{◌>>=◌, map_err}

-- the value of two steps that did not fail
pub bind_ok : {A B E : Type 0} (r : Result A E) (f : A → Result B E) (y : B) → (r >>= f) ≡ Ok y → (x : A) × (r ≡ Ok x) × (f x ≡ Ok y)
bind_ok (Ok x) f y e = (x, refl, e)
bind_ok (Err d) f y e = absurd cc

-- which of two steps failed
pub bind_err : {A B E : Type 0} (r : Result A E) (f : A → Result B E) (d : E) → (r >>= f) ≡ Err d → (r ≡ Err d) ⊎ ((x : A) × (r ≡ Ok x) × (f x ≡ Err d))
bind_err (Ok x) f d e = inr (x, refl, e)
bind_err (Err c) f d e = inl cc

-- which way a test went
pub chosen : {A : Type 0} (b : Bool) (x y z : A) → cond b x y ≡ z → ((b ≡ true) × (x ≡ z)) ⊎ ((b ≡ false) × (y ≡ z))
chosen true x y z e = inl (refl, e)
chosen false x y z e = inr (refl, e)

pub either : (b : Bool) → (b ≡ true) ⊎ (b ≡ false)
either true = inl refl
either false = inr refl

-- `Ok` and `Err` of the types that a reader has
abbrev pub done : {A : Type 0} (E : Type 0) → A → Result A E
done E x = Ok x

abbrev pub failed : {E : Type 0} (A : Type 0) → E → Result A E
failed A e = Err e

pub ok_is : {A E : Type 0} (x y : A) → done E x ≡ done E y → x ≡ y
ok_is x y e = cc

pub err_is : {A E : Type 0} (x y : E) → failed A x ≡ failed A y → x ≡ y
err_is x y e = cc

pub ok_or_err : {A E : Type 0} (x : A) (y : E) → done E x ≡ failed A y → ⊥
ok_or_err x y e = cc

-- ---- faults under another name

pub map_ok : {A E F : Type 0} (name : E → F) (r : Result A E) (x : A) → map_err name r ≡ Ok x → r ≡ Ok x
map_ok name (Ok x) y e = ap (done _) (ok_is x y e)
map_ok name (Err d) y e = absurd cc

pub map_failed : {A E F : Type 0} (name : E → F) (r : Result A E) (d : F) → map_err name r ≡ Err d → (fault : E) × (r ≡ Err fault) × (name fault ≡ d)
map_failed name (Ok x) d e = absurd cc
map_failed name (Err fault) d e = (fault, refl, err_is (name fault) d e)
