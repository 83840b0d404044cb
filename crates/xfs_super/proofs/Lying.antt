-- Groups and blocks lie inside their volume.
use Rattle.std.proofs.Common.{◌≡◌, ℕ, ◌+◌, ◌-◌, ◌*◌, ◌/◌, ◌%◌, ◌<◌, ◌≤◌, arith}
use Rattle.std.proofs.lemmas.Nat.{mul-le, div_below, div-add-mod'}
use Rattle.xfs_super.specs.Geometry.{blocks_in_group, AreGroups}

-- a group that isn't the last begins a whole group before the last one, or earlier
before_last : (a c group : ℕ) → group + 1 < c → group * a + a ≤ (c - 1) * a
before_last a c group early = let more : (group + 1) * a ≤ (c - 1) * a = mul-le (group + 1) a (c - 1) a (omega arith) (omega arith) in
    let next : (group + 1) * a ≡ group * a + a = omega arith in omega arith

pub group_is_whole : (d a c k group : ℕ) → AreGroups d a c k → group + 1 < c → blocks_in_group d a group ≡ a
group_is_whole d a c k group g early =
    let begins = before_last a c group early in
    let last : (c - 1) * a + 64 ≤ d = g.last in
    omega arith

pub group_has_blocks : (d a c k group : ℕ) → AreGroups d a c k → group < c → 64 ≤ blocks_in_group d a group
group_has_blocks d a c k group g inside =
    let least : 64 ≤ a = g.least in
    let begins : group * a ≤ (c - 1) * a = mul-le group a (c - 1) a (omega arith) (omega arith) in
    let last : (c - 1) * a + 64 ≤ d = g.last in
    omega arith

pub group_lies_inside : (d a c k group : ℕ) → AreGroups d a c k → group < c → group * a + blocks_in_group d a group ≤ d
group_lies_inside d a c k group g inside =
    let some = group_has_blocks d a c k group g inside in
    omega arith

pub block_has_group : (d a c k n : ℕ) → AreGroups d a c k → n < d → (n / a < c) × (n % a < blocks_in_group d a (n / a))
block_has_group d a c k n g inside =
    let least : 64 ≤ a = g.least in
    let all : d ≤ c * a = g.all in
    let parts = div-add-mod' n a in
    (div_below n a c (omega arith) (omega arith), omega arith)
