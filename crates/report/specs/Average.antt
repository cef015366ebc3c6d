-- "The average is signed": how it is stored, one definition each way.
use Rattle.std.specs.Prelude.{ℕ, suc, ◌*◌, ◌-◌, ◌/◌, ◌%◌, eqb, ℤ, pos, negsuc}
use Rattle.wire.specs.Bytes.{pick}

-- "n >= 0 is stored as 2n, negative n as -2n - 1"; negsuc m is the number -(m + 1)
abbrev pub stored_of : ℤ → ℕ
stored_of (pos n) = 2 * n
stored_of (negsuc m) = 2 * suc m - 1

-- the other way: an even number is the double of n, an odd one stores a negative n
abbrev pub average_of : ℕ → ℤ
average_of v = pick (eqb (v % 2) 0) (pos (v / 2)) (negsuc (v / 2))
