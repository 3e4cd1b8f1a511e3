-- Words at the front of a slice. Assumes nothing.
use Prim.Native.Nat.{ℕ, ◌≤◌, ◌<◌}
use mathlib.Core.Path.{◌≡◌}
use mathlib.Core.List.{List, ◌++◌}
use borrow.Author.Tests.{le-leb, lt-leb}
use lib.ListN.{length, drop}
use Rattle.std.specs.Prelude.{cond, nat_le}

module _ (n : ℕ) (ws l : List ℕ) where
  pub short : length l < n → l ≡ cond (nat_le n (length l)) (ws ++ drop n l) l
  short h = rw (lt-leb n (length l) h)

  pub stored : n ≤ length l → ws ++ drop n l ≡ cond (nat_le n (length l)) (ws ++ drop n l) l
  stored h = rw (le-leb n (length l) h)
