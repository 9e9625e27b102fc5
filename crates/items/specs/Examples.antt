-- Worked examples of the rules for pack labels.
-- Assumes nothing.
use Rattle.std.specs.Prelude.{◌≡◌, true, false, codes}
use Rattle.items.specs.Lawful.{lawful_code, lawful_expiry}

-- a right check digit and a wrong one; 29 February of a leap year and of another
pub record Examples : Type 0 where
  pub right_digit : lawful_code (codes "12345670") ≡ true
  pub wrong_digit : lawful_code (codes "12345671") ≡ false
  pub leap_year : lawful_expiry (codes "280229") ≡ true
  pub other_year : lawful_expiry (codes "270229") ≡ false
