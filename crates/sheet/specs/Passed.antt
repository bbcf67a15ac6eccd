-- What the inner functions take for granted: what is known of a sheet once the first checks did not apply.
use Rattle.std.specs.Prelude.{ℕ, ◌≤◌, List, ◌≡◌, length}
use Rattle.sheet.specs.Layout.{atom_count, clause_count, objective_count, literal_count, total_bytes}

-- past 10 and 11: the header is there, and its counts are in range
pub record Counted (s : List ℕ) : Type 0 where
  pub header : 32 ≤ length s
  pub some_atom : 1 ≤ atom_count s
  pub atoms : atom_count s ≤ 64
  pub clauses : clause_count s ≤ 1024
  pub objectives : objective_count s ≤ 64
  pub literals : literal_count s ≤ 8192

-- past 12: the sheet is as long as its counts make it
pub record Whole (s : List ℕ) : Type 0 where
  pub counted : Counted s
  pub whole : length s ≡ total_bytes s
