-- What is known of the calls that a disk in memory records.
use Rattle.std.specs.Prelude.{◌≡◌, ℕ, ◌+◌, ◌*◌, ◌%◌, List, length, ◌<◌, ◌≤◌, ◌^◌}
use Rattle.disk_base.specs.Past.{Event, Idle, Wrote, GaveUp, Flushed, Created}
use Rattle.disk_base.specs.Stopped.{IsLasting}

-- a call that stays inside a disk that holds the image
abbrev pub IsCallInside : List ℕ → Event → Type 0
IsCallInside image Idle = Unit {0}
IsCallInside image (Wrote at bytes) = (512 * at + length bytes ≤ length image) × (length bytes % 512 ≡ 0)
IsCallInside image (GaveUp at n) = 512 * at + 512 * n ≤ length image
IsCallInside image Flushed = Unit {0}
IsCallInside image (Created n) = 512 * n < 2 ^ 64

-- where so many were lasting at a call, so many are with it
abbrev pub LastsOn : List Event → ℕ → ℕ → ℕ → Type 0
LastsOn past call before after = IsLasting past call before → IsLasting past (call + 1) after
