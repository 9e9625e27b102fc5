-- Two groups of packs are found under equally many draw lists exactly when their weights are equal.
-- Assumes nothing.
use Rattle.std.proofs.Common.{◌≡◌, ℕ, ◌≤◌, Bool, ltb, List, [], ◌∷◌, sym, ap, ◌∙◌, subst, arith}
use Rattle.std.specs.List.{AllByRecursion}
use Rattle.std.proofs.lemmas.Bool.{cond_both}
use Rattle.device.specs.Disk.{Disk}
use Rattle.octets.specs.Zeros.{zeros}
use Rattle.pairing.specs.Reservoir.{Reservoir, empty}
use Rattle.fairness.specs.Histories as history
use Rattle.fairness.specs.Histories.{draw_lists, count, widths, run}
use Rattle.fairness.specs.Laws as fairness
use Rattle.fairness.specs.Laws.{found, weight_of, times}
use Rattle.fairness.proofs.Fairness.{fair}
use Rattle.fairness.proofs.Keeping.{keeps_empty}
use Rattle.session.specs.Calls.{Kind, Call}
use Rattle.session.specs.Failures.{Plan}
use Rattle.session.specs.Law.{above_one, Below, tape_of, words_of, committed_calls, Session}
use Rattle.session.proofs.Committed.{moves}
use Rattle.session.proofs.DrawLists.{filled, count_like, count_filled}
use Rattle.session.proofs.Moves.{Moves, Kept, Bounded, bounded, unworded, run_moves}
use Rattle.session.proofs.Tapes.{Tape, zeros_tape, draws_tape, tape_begins}

pub kept_empty : {X : Type 0} (m : ℕ) → Kept {X = X} m 0 0 fairness.none (empty m)
kept_empty m = record { keeps = keeps_empty 32768 m; room = omega arith }

pub all_above : (P : ℕ → Type 0) (ws : List ℕ) → AllByRecursion P ws → AllByRecursion P (above_one ws)
all_above P [] h = tt
all_above P (w ∷ ws) h = cond_both (ltb 1 w) (w ∷ above_one ws) (above_one ws) (AllByRecursion P) (λ e. (h.0, all_above P ws h.1)) (λ e. all_above P ws h.1)

module _ {X Y : Type 0} (own : Kind X) (other : Kind Y) (plan : Plan) (d : Disk) (page : List ℕ) (m : ℕ) (calls : List (Call X Y)) (n : ℕ)
    (zero : Session own other plan (zeros n) d page m calls) where
  abbrev committed : List (history.Call X)
  committed = committed_calls calls zero.events

  abbrev drawn : List ℕ
  drawn = above_one (widths m 0 0 committed)

  bounds : Bounded n 0 m 0 0 fairness.none committed
  bounds = bounded (zeros_tape n) (moves own other (words_of (zeros n)) calls zero.steps) (kept_empty m)

  -- the tape of a draw list has n small words
  pub drawn_tape : (ds : List ℕ) → Below drawn ds → Tape n (words_of (tape_of n ds))
  drawn_tape ds below = draws_tape n below (all_above (λ w. w ≤ 32768) (widths m 0 0 committed) bounds.most) (omega (arith, bounds.few))

  module _
      (same : (ds : List ℕ) → Below drawn ds → (s : Session own other plan (tape_of n ds) d page m calls) → committed_calls calls s.events ≡ committed)
      (exists : (ds : List ℕ) → Below drawn ds → Session own other plan (tape_of n ds) d page m calls)
      (final : List ℕ → Reservoir X)
      (is : (ds : List ℕ) → Below drawn ds → (s : Session own other plan (tape_of n ds) d page m calls) → final ds ≡ s.reservoir) where
    -- the session of a draw list is a run of the history
    final_run :
        (ds : List ℕ) → Below drawn ds → (s : Session own other plan (tape_of n ds) d page m calls) →
        run (empty m) committed (filled (widths m 0 0 committed) ds) ≡ unworded s.reservoir
    final_run ds below s =
        run_moves (drawn_tape ds below)
        (subst (λ h. Moves (words_of (tape_of n ds)) (empty m) h s.reservoir) (same ds below s) (moves own other (words_of (tape_of n ds)) calls s.steps))
        (kept_empty m) ds below
        (tape_begins n below (all_above (λ w. w ≤ 32768) (widths m 0 0 committed) bounds.most) (omega (arith, bounds.few)))

    counts : (a : ℕ → Bool) → count (λ ds. found a (final ds)) (draw_lists drawn) ≡ times m committed a
    counts a =
        count_like (λ ds. found a (final ds)) (λ ds. found a (run (empty m) committed (filled (widths m 0 0 committed) ds))) drawn
        (λ ds below. let s = exists ds below in ap (found a) (is ds below s) ∙ ap (found a) (sym (final_run ds below s)))
        ∙ sym (count_filled (λ es. found a (run (empty m) committed es)) (widths m 0 0 committed) bounds.least)

    pub even :
        (a b : ℕ → Bool) →
        (count (λ ds. found a (final ds)) (draw_lists drawn) ≡ count (λ ds. found b (final ds)) (draw_lists drawn) →
        weight_of m committed a ≡ weight_of m committed b)
        × (weight_of m committed a ≡ weight_of m committed b →
        count (λ ds. found a (final ds)) (draw_lists drawn) ≡ count (λ ds. found b (final ds)) (draw_lists drawn))
    even a b =
        let f = fair m committed bounds.possible in (
          (λ e. f.1 a b (sym (counts a) ∙ e ∙ counts b)),
          (λ e. counts a ∙ f.2 a b e ∙ sym (counts b)),
        )
