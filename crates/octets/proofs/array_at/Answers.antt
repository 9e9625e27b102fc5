use Rattle.std.proofs.Common.{◌≡◌, ℕ, zero, suc, ◌+◌, ◌<◌, ◌≤◌, List, ap, ◌∙◌, sym, subst, get_or, ⊎_elim, arith, rules}
use denote.Param.Members.{Mut}
use Rattle.std.specs.Array.{IsFromFnResultFrom}
use Rattle.std.specs.Fn.{Called}
use Rattle.std.proofs.lemmas.Bool.{cases_lt}
use Rattle.octets.proofs.array_at.Goals as goal

-- what holds of each call of a closure that no call changes holds of each element
module _ {F : Type 0} (g : Mut F (ℕ × Unit {0}) ℕ) (P : ℕ → ℕ → Type 0) (f : F) (call : (i y : ℕ) (q : F) → Called g f (i, tt) y q → (q ≡ f) × P i y) where
  made : (ys : List ℕ) (i n : ℕ) → IsFromFnResultFrom g f ys i n → (k : ℕ) → i ≤ k → k < i + n → P k (get_or ys k 0)
  made ys i zero each k low high = absurd (omega arith)
  made ys i (suc n) (q, y, here, called, rest) k low high =
      let now = call i y q called in
      ⊎_elim
      (λ more. made ys (i + 1) n (subst (λ p. IsFromFnResultFrom g p ys (i + 1) n) now.0 rest) k (omega arith) (omega arith))
      (λ same. let e : i ≡ k = omega arith in subst (λ j. P j (get_or ys j 0)) e (subst (P i) (sym (here.1 0)) now.1))
      (cases_lt i k)

pub returns-clause-each : goal.returns-clause-each
returns-clause-each g c = λ k h.
    made _ (λ i y. y ≡ get_or c.from-tail.result.now i 0) _ (λ i y q called. search rules) _ 0 _ c.from_fn.ensures.items.each k (omega arith) (omega arith)
    ∙ ap (λ l. get_or l k 0) c.from-tail.ensures
