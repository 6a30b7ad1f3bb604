-- Where among the snapshots the one with a label is.
use Rattle.std.proofs.Common.{◌≡◌, ℕ, suc, ◌+◌, ◌<◌, ◌≤◌, false, List, length, map, take, drop, get_or, None, sym, subst, add-one, arith}
use Rattle.std.specs.Str.{bytes_eq}
use Rattle.std.proofs.lemmas.List.{length-take-le, take_all}
use Rattle.wp_read.proofs.Rounds.{parts_at, one_more}
use Rattle.wp_replies.specs.Client.{number_of}
use Rattle.wp_client.specs.declared.holdings.HeldSnapshot.{HeldSnapshot}
use Rattle.wp_client.specs.Holdings.{labelled}
use Rattle.wp_client.specs.Replies.{IsPlace}
use Rattle.wp_client.proofs.Labelled.{no_more}

module _ (xs : List HeldSnapshot) (label : List ℕ) where
  -- none of so many has the label
  abbrev pub NoneAmong : ℕ → Type 0
  NoneAmong i = number_of (map labelled (take i xs)) label ≡ None

  module _ (i : ℕ) (s : HeldSnapshot) (within : i < length xs) (is : s ≡ get_or xs i s) (none : NoneAmong i) where
    -- nor has the next one
    pub none_among_more : bytes_eq s.label label ≡ false → NoneAmong (i + 1)
    none_among_more other =
        subst (λ (n : ℕ). NoneAmong n) (sym (add-one i)) (subst (λ (ys : List HeldSnapshot). number_of (map labelled ys) label ≡ None) (sym (one_more xs i s within is)) (no_more label (take i xs) s none other))

    -- it has
    pub is_place : s.label ≡ label → IsPlace xs label i
    is_place same = record {
      front = take i xs;
      found = s;
      back = drop (suc i) xs;
      are = parts_at xs i s within is;
      place = length-take-le i xs (omega arith);
      label_is = same;
      none_before = none;
    }

  pub none_at_all : (i : ℕ) → length xs ≤ i → NoneAmong i → number_of (map labelled xs) label ≡ None
  none_at_all i most none = subst (λ (ys : List HeldSnapshot). number_of (map labelled ys) label ≡ None) (take_all i xs most) none
