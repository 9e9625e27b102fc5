-- Bytes written in a padded array behind those that stand in it.
-- Assumes nothing.
use Rattle.std.specs.Prelude.{◌≡◌, ℕ, ◌+◌, ◌-◌, ◌≤◌, List, ◌++◌, length, take, drop}
use Rattle.std.proofs.Common.{sym, ap, ◌∙◌, append_assoc, arith, length-append, length-drop, length-take-le, take-append-drop, drop-drop}
use Rattle.std.proofs.lemmas.List.{take_at, drop_at, drop-replicate}
use Rattle.octets.specs.Edits.{placed}
use Rattle.octets.specs.Zeros.{zeros}
use Rattle.octets.proofs.Edits.{placed_fits}
use Rattle.items.specs.Padded.{Padded}
use Rattle.items.specs.Texts.{padded}

-- the array is what stands in it, padded
pub padded_bytes : (n at : ℕ) (d : List ℕ) → Padded n at d → d ≡ padded n (take at d)
padded_bytes n at d p =
    sym (take-append-drop at d)
    ∙ ap (λ z. take at d ++ z) (p.2 ∙ ap (λ k. zeros (n - k)) (sym (length-take-le at d (omega (arith, p.0, p.1)))))

module _ (n at : ℕ) (d f s : List ℕ) (p : Padded n at d) (h : at + length s ≤ n) (is : f ≡ placed d at s) where
  parts : f ≡ (take at d ++ s) ++ drop (at + length s) d
  parts = is ∙ placed_fits d s at (omega (arith, h, p.1)) ∙ sym (append_assoc (take at d) s (drop (at + length s) d))

  long : length (take at d ++ s) ≡ at + length s
  long = length-append (take at d) s ∙ ap (λ k. k + length s) (length-take-le at d (omega (arith, p.0, p.1)))

  pub stands_more : take (at + length s) f ≡ take at d ++ s
  stands_more = ap (take (at + length s)) parts ∙ take_at (take at d ++ s) (drop (at + length s) d) (at + length s) long

  zeros_left : drop (length s) (drop at d) ≡ zeros (n - (at + length s))
  zeros_left =
      let left : n - at - length s ≡ n - (at + length s) = omega arith in
      let gone : drop (length s) (zeros (n - at)) ≡ zeros (n - at - length s) = drop-replicate (length s) (n - at) 0 in
      ap (drop (length s)) p.2 ∙ gone ∙ ap zeros left

  zeros_behind : drop (at + length s) f ≡ zeros (n - (at + length s))
  zeros_behind =
      ap (drop (at + length s)) parts
      ∙ drop_at (take at d ++ s) (drop (at + length s) d) (at + length s) long
      ∙ sym (drop-drop (length s) at d)
      ∙ zeros_left

  pub padded_more : Padded n (at + length s) f
  padded_more =
      let all = ap length parts ∙ length-append (take at d ++ s) (drop (at + length s) d) in
      let rest = length-drop (at + length s) d in
      (h, omega (arith, all, rest, long, h, p.1), zeros_behind)
