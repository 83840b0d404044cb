-- How large a number of few digits is.
use Rattle.std.proofs.Common.{◌≡◌, ℕ, ◌+◌, ◌-◌, ◌*◌, ◌^◌, ◌<◌, ◌≤◌, arith, lit<, add-one, refl}
use Rattle.std.proofs.Math.Nat.{pow-le-pow_right, pow-succ'}

pub next_power : (number digit i : ℕ) → number + 23 ≤ 23 * 10 ^ i → digit < 256 → 10 * number + (digit - 48) + 23 ≤ 23 * 10 ^ (i + 1)
next_power number digit i h d = let e : 10 ^ (i + 1) ≡ 10 * 10 ^ i = rw (add-one, pow-succ' 10 i) refl in omega arith

pub power_under : (n m : ℕ) → n ≤ m → 23 * 10 ^ n ≤ 23 * 10 ^ m
power_under n m h = let e : 10 ^ n ≤ 10 ^ m = pow-le-pow_right (lit< tt) h in omega arith

pub power_fits : (n : ℕ) → n ≤ 15 → 23 * 10 ^ n < 2 ^ 57
power_fits n h = let e : 10 ^ n ≤ 10 ^ 15 = pow-le-pow_right (lit< tt) h in omega arith
