-- Bytes are read in one way.
use Rattle.std.proofs.Common.{◌≡◌, ◌⊎◌, inl, inr, ℕ, ◌<◌, ◌^◌, List, [], ◌∷◌, ◌++◌, length, take, drop, refl, sym, ◌∙◌, ap, subst, arith, length-append}
use Rattle.std.proofs.lemmas.List.{append_assoc, take_at, drop_at}
use Rattle.std.specs.Int.{w32, w64, to_be_bytes}
use Rattle.wp_outside.specs.Disk.{Each}
use Rattle.wp_fields.specs.Format.{format_byte}
use Rattle.wp_gatelog.specs.Damage.{IsShort, stated_length}
use Rattle.wp_gatelog.specs.Spelling.{Gated, Stamp, IsOpen, framed, identity, all_gated, log_of}
use Rattle.wp_gatelog.proofs.AppendLemmas.{length-framed}
use Rattle.wp_gatelog.proofs.ScanLemmas.{stated_length_framed}

-- lists of equal lengths
pub same_parts : {A : Type 0} (a b x y : List A) → length a ≡ length b → a ++ x ≡ b ++ y → (a ≡ b) × (x ≡ y)
same_parts a b x y size is = (
  sym (take_at a x (length b) size) ∙ ap (λ (l : List _). take (length b) l) is ∙ take_at b y (length b) refl,
  sym (drop_at a x (length b) size) ∙ ap (λ (l : List _). drop (length b) l) is ∙ drop_at b y (length b) refl,
)

split_framed : (bytes rest : List ℕ) → drop 8 (framed bytes ++ rest) ≡ bytes ++ rest
unfolding framed
split_framed bytes rest =
    ap (λ (l : List ℕ). drop 8 l) (append_assoc (to_be_bytes w64 (length bytes)) bytes rest) ∙ drop_at (to_be_bytes w64 (length bytes)) (bytes ++ rest) 8 refl

pub same_framed : (a b x y : List ℕ) → length a < 2 ^ 64 → length b < 2 ^ 64 → framed a ++ x ≡ framed b ++ y → (a ≡ b) × (x ≡ y)
same_framed a b x y fits_a fits_b is =
    let size : length a ≡ length b = sym (stated_length_framed a x fits_a) ∙ ap stated_length is ∙ stated_length_framed b y fits_b in
    same_parts a b x y size (sym (split_framed a x) ∙ ap (λ (l : List ℕ). drop 8 l) is ∙ split_framed b y)

-- no record can be read there: the gate is closed, or there is no whole record after it
abbrev Stops : List ℕ → Type 0
Stops [] = ⊥
Stops (gate ∷ following) = (gate ≡ 0) ⊎ IsShort following

stops_some : (bytes : List ℕ) → Stops bytes → 0 < length bytes
stops_some [] h = absurd h
stops_some (gate ∷ following) h = omega arith

whole_goes_on : (g : Gated) (rest : List ℕ) → IsOpen g → 0 < length rest → Stops (g.gate ∷ (framed g.bytes ++ rest)) → ⊥
whole_goes_on g rest opened some stops = elim stops [
  | inl shut ↦ opened.gate shut
  | inr short ↦ omega (arith, short, stated_length_framed g.bytes rest opened.length_fits, length-append (framed g.bytes) rest, length-framed g.bytes)
]

pub first_split : (g : Gated) (gs : List Gated) (rest : List ℕ) → all_gated (g ∷ gs) ++ rest ≡ g.gate ∷ (framed g.bytes ++ (all_gated gs ++ rest))
first_split g gs rest = ap (λ (l : List ℕ). g.gate ∷ l) (append_assoc (framed g.bytes) (all_gated gs) rest)

not_whole : (g : Gated) (gs : List Gated) (t u : List ℕ) → IsOpen g → Stops t → Stops u → t ≡ all_gated (g ∷ gs) ++ u → ⊥
not_whole g gs t u opened stops_t stops_u is =
    whole_goes_on g (all_gated gs ++ u) opened (omega (arith, stops_some u stops_u, length-append (all_gated gs) u)) (subst Stops (is ∙ first_split g gs u) stops_t)

same_gated : (gs hs : List Gated) (t u : List ℕ) → Each IsOpen gs → Each IsOpen hs → Stops t → Stops u → all_gated gs ++ t ≡ all_gated hs ++ u → (gs ≡ hs) × (t ≡ u)
same_gated [] [] t u eg eh st su is = (refl, is)
same_gated [] (h ∷ hs) t u eg eh st su is = absurd (not_whole h hs t u eh.0 st su is)
same_gated (g ∷ gs) [] t u eg eh st su is = absurd (not_whole g gs u t eg.0 su st (sym is))
same_gated (g ∷ gs) (h ∷ hs) t u eg eh st su is =
    let both : g.gate ∷ (framed g.bytes ++ (all_gated gs ++ t)) ≡ h.gate ∷ (framed h.bytes ++ (all_gated hs ++ u)) = sym (first_split g gs t) ∙ is ∙ first_split h hs u in
    let gate : g.gate ≡ h.gate = cc in
    let following : framed g.bytes ++ (all_gated gs ++ t) ≡ framed h.bytes ++ (all_gated hs ++ u) = cc in
    let bytes = same_framed g.bytes h.bytes (all_gated gs ++ t) (all_gated hs ++ u) eg.0.length_fits eh.0.length_fits following in
    let rest = same_gated gs hs t u eg.1 eh.1 st su bytes.1 in
    ((λ i. record { gate = gate i; bytes = bytes.0 i } ∷ rest.0 i), rest.1)

pub length-identities : (magic : List ℕ) (stamp other : Stamp) → length (identity magic stamp) ≡ length (identity magic other)
unfolding identity
length-identities magic stamp other = omega (arith, length-append magic (format_byte stamp.format ∷ to_be_bytes w32 stamp.id), length-append magic (format_byte other.format ∷ to_be_bytes w32 other.id))

-- a head, and records up to a stop
pub record SameLog (magic : List ℕ) (stamp other : Stamp) (h k : ℕ) (gs hs : List Gated) (t u : List ℕ) : Type 0 where
  pub head : h ≡ k
  pub named : identity magic stamp ≡ identity magic other
  pub gated : gs ≡ hs
  pub rest : t ≡ u

pub same_log : (magic : List ℕ) (stamp other : Stamp) (h k : ℕ) (gs hs : List Gated) (t u : List ℕ) → Each IsOpen gs → Each IsOpen hs → Stops t → Stops u
    → log_of magic stamp h gs ++ t ≡ log_of magic other k hs ++ u → SameLog magic stamp other h k gs hs t u
same_log magic stamp other h k gs hs t u eg eh st su is =
    let head : h ≡ k = cc in
    let rest : (identity magic stamp ++ all_gated gs) ++ t ≡ (identity magic other ++ all_gated hs) ++ u = cc in
    let split = same_parts (identity magic stamp) (identity magic other) (all_gated gs ++ t) (all_gated hs ++ u) (length-identities magic stamp other)
    (sym (append_assoc (identity magic stamp) (all_gated gs) t) ∙ rest ∙ append_assoc (identity magic other) (all_gated hs) u) in
    let following = same_gated gs hs t u eg eh st su split.1 in
    record { head = head; named = split.0; gated = following.0; rest = following.1 }
