-- Lists of sessions, place by place.
use Rattle.std.proofs.Common.{◌≡◌, ℕ, zero, suc, ◌<◌, List, [], ◌∷◌, length, map, refl, sym, subst, ◌∙◌, arith}
use Rattle.std.specs.Prelude.{slice_index_or}
use Rattle.wp_text.specs.declared.script.Part.{Part}
use Rattle.wp_shared.specs.Seats.{SharedState, IsFree}
use Rattle.wp_replies.specs.Known.{StoredState}
use Rattle.wp_client.specs.Answers.{Stays}
use Rattle.wp_seats.specs.declared.session.Session.{Session}
use Rattle.wp_threads.specs.Each.{IsPartAt, IsNewAt, HasRunAt, AllStay}
use Rattle.wp_threads.specs.SoFar.{IsFound}
use Rattle.wp_seats.specs.Lists.{seat_of, answers_of}
use Rattle.wp_seats.specs.New.{IsNew, AreNew, clients_of}
use Rattle.wp_threads.specs.Over.{AreOver}

-- there is one part at a place
pub same_part : (parts : List Part) (i : ℕ) (p q : Part) → i < length parts → IsPartAt parts i p → IsPartAt parts i q → p ≡ q
same_part [] i p q lt a b = absurd (omega arith)
same_part (x ∷ parts) zero p q lt a b = a ∙ sym b
same_part (x ∷ parts) (suc i) p q lt a b = same_part parts i p q (omega arith) a b

module _ {D : Type 0} (z : SharedState D) where
  pub new_at : (parts : List Part) (ss : List (Session D)) (i : ℕ) (s : Session D) → i < length ss → s ≡ slice_index_or ss i s → AreNew z (clients_of parts) (map seat_of ss) → IsNewAt z parts i s.seat
  new_at [] [] i s lt e new = absurd (omega arith)
  new_at (p ∷ parts) (x ∷ ss) zero s lt e new = (omega arith, λ part is. subst (λ (y : Part × Session D). IsNew z y.0.client y.1.seat) (λ j. (sym is j, sym e j)) new.0)
  new_at (p ∷ parts) (x ∷ ss) (suc i) s lt e new = let k = new_at parts ss i s (omega arith) e new.1 in let within = k.0 in (omega (arith, within), k.1)
  new_at _ _ i s lt e new = absurd new

  pub same_length : (parts : List Part) (ss : List (Session D)) → AreNew z (clients_of parts) (map seat_of ss) → length parts ≡ length ss
  same_length [] [] new = refl
  same_length (p ∷ parts) (x ∷ ss) new = let k = same_length parts ss new.1 in omega (arith, k)
  same_length _ _ new = absurd new

  pub all_over : (parts : List Part) (olds news : List (Session D)) → length parts ≡ length olds → length news ≡ length olds
      → ((i : ℕ) (d : Session D) → i < length olds → HasRunAt z parts i (slice_index_or news i d).answers (slice_index_or olds i d).seat (slice_index_or news i d).seat)
      → (found : StoredState) → IsFound z found → AreOver z found parts (map answers_of news) (map seat_of news)
  all_over [] [] [] same e h found is = tt
  all_over (p ∷ parts) (o ∷ olds) (n ∷ news) same e h found is = ((h 0 n (omega arith)).0 found is p refl, all_over parts olds news (omega (arith, same)) (omega (arith, e)) (λ i d lt. h (suc i) d (omega (arith, lt))) found is)
  all_over [] (o ∷ olds) news same e h found is = absurd (omega (arith, same))
  all_over (p ∷ parts) [] news same e h found is = absurd (omega (arith, same))
  all_over [] [] (n ∷ news) same e h found is = absurd (omega (arith, e))
  all_over (p ∷ parts) (o ∷ olds) [] same e h found is = absurd (omega (arith, e))

  pub all_stay : (olds news : List (Session D)) → length news ≡ length olds → ((i : ℕ) (d : Session D) → i < length olds → Stays (slice_index_or olds i d).seat (slice_index_or news i d).seat × IsFree z.table (slice_index_or news i d).seat) → AllStay z (map seat_of olds) (map seat_of news)
  all_stay [] [] e h = tt
  all_stay (o ∷ olds) (n ∷ news) e h = let k = h 0 n (omega arith) in (k.0, k.1, all_stay olds news (omega (arith, e)) (λ i d lt. h (suc i) d (omega (arith, lt))))
  all_stay [] (n ∷ news) e h = absurd (omega (arith, e))
  all_stay (o ∷ olds) [] e h = absurd (omega (arith, e))
