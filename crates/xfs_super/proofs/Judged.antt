-- What the tests on the headers of a group say.
use Rattle.std.proofs.Common.{◌≡◌, ℕ, ◌<◌, ◌≤◌, inl, inr, true, not, eqb, ltb, leb, ◌&&◌, ◌||◌, List, arith}
use Rattle.std.specs.Str.{bytes_eq}
use Rattle.std.proofs.lemmas.Bool.{and_parts, or_cases, leb-true, ltb-true, eqb-true, both_ways, not-true}
use Rattle.std.proofs.lemmas.Slice.Eq.{bytes_eq-Decides}
use Rattle.xfs_super.specs.Geometry.{Geometry, group_len}
use Rattle.xfs_super.specs.Headers.{agf_in, agi_in, list_capacity, is_height, has_free_list, fits_agf, is_agf, fits_agi, is_agi, IsSoundAgf, IsSoundAgi}
use Rattle.xfs_super.specs.declared.agf.Agf.{Agf}
use Rattle.xfs_super.specs.declared.agi.Agi.{Agi}

height_facts : (level : ℕ) → is_height level ≡ true → (1 ≤ level) × (level ≤ 8)
height_facts level h = let p = and_parts (leb 1 level) (leb level 8) h in (leb-true 1 level p.0, leb-true level 8 p.1)

list_facts : (room : ℕ) (agf : Agf) → has_free_list room agf ≡ true → (agf.flcount ≤ room) × (1 ≤ agf.flcount → agf.flfirst < room)
list_facts room agf h =
    elim (or_cases (eqb agf.flcount 0) (leb agf.flcount room && ltb agf.flfirst room && ltb agf.fllast room) h) [
      | inl none ↦ let empty : agf.flcount ≡ 0 = eqb-true agf.flcount 0 none in (omega arith, λ some. absurd (omega arith))
      | inr used ↦
          let last = and_parts (leb agf.flcount room && ltb agf.flfirst room) (ltb agf.fllast room) used in
          let first = and_parts (leb agf.flcount room) (ltb agf.flfirst room) last.0 in
          (leb-true agf.flcount room first.0, λ _. ltb-true agf.flfirst room first.1)
    ]

pub agf_facts : (g : Geometry) (group : ℕ) (agf : Agf) → fits_agf g group agf ≡ true → IsSoundAgf g group agf
agf_facts g group agf h =
    let len : ℕ = group_len g group in
    let p7 = and_parts _ (has_free_list (list_capacity g.sectsize) agf) h in
    let p6 = and_parts _ (is_height agf.cnt_level) p7.0 in
    let p5 = and_parts _ (is_height agf.bno_level) p6.0 in
    let p4 = and_parts _ (ltb agf.cnt_root len) p5.0 in
    let p3 = and_parts _ (ltb agf.bno_root len) p4.0 in
    let p2 = and_parts _ (bytes_eq agf.uuid g.meta) p3.0 in
    let p1 = and_parts (eqb agf.seqno group) (eqb agf.length len) p2.0 in
    let list = list_facts (list_capacity g.sectsize) agf p7.1 in
    let bno = height_facts agf.bno_level p5.1 in
    let cnt = height_facts agf.cnt_level p6.1 in
    record {
      seqno = eqb-true agf.seqno group p1.0;
      len = eqb-true agf.length len p1.1;
      identity = (bytes_eq-Decides agf.uuid g.meta).0 p2.1;
      bno_root = ltb-true agf.bno_root len p3.1;
      cnt_root = ltb-true agf.cnt_root len p4.1;
      bno_some = bno.0;
      bno_few = bno.1;
      cnt_some = cnt.0;
      cnt_few = cnt.1;
      listed = list.0;
      first = list.1;
    }

pub agf_sound : (g : Geometry) (group : ℕ) (bytes : List ℕ) → is_agf g group bytes ≡ true → IsSoundAgf g group (agf_in bytes)
agf_sound g group bytes h = agf_facts g group (agf_in bytes) (and_parts _ (fits_agf g group (agf_in bytes)) h).1

free_facts : (g : Geometry) (len : ℕ) (agi : Agi) → (not g.finobt || (ltb agi.free_root len && is_height agi.free_level)) ≡ true → g.finobt ≡ true
    → (agi.free_root < len) × ((1 ≤ agi.free_level) × (agi.free_level ≤ 8))
free_facts g len agi h has =
    elim (or_cases (not g.finobt) (ltb agi.free_root len && is_height agi.free_level) h) [
      | inl lacks ↦ absurd (both_ways g.finobt (not-true g.finobt lacks) has)
      | inr fits ↦
          let p = and_parts (ltb agi.free_root len) (is_height agi.free_level) fits in
          (ltb-true agi.free_root len p.0, height_facts agi.free_level p.1)
    ]

pub agi_facts : (g : Geometry) (group : ℕ) (agi : Agi) → fits_agi g group agi ≡ true → IsSoundAgi g group agi
agi_facts g group agi h =
    let len : ℕ = group_len g group in
    let p5 = and_parts _ (not g.finobt || (ltb agi.free_root len && is_height agi.free_level)) h in
    let p4 = and_parts _ (is_height agi.level) p5.0 in
    let p3 = and_parts _ (ltb agi.root len) p4.0 in
    let p2 = and_parts _ (bytes_eq agi.uuid g.meta) p3.0 in
    let p1 = and_parts (eqb agi.seqno group) (eqb agi.length len) p2.0 in
    let levels = height_facts agi.level p4.1 in
    record {
      seqno = eqb-true agi.seqno group p1.0;
      len = eqb-true agi.length len p1.1;
      identity = (bytes_eq-Decides agi.uuid g.meta).0 p2.1;
      root = ltb-true agi.root len p3.1;
      some = levels.0;
      few = levels.1;
      free_root = λ has. (free_facts g len agi p5.1 has).0;
      free_some = λ has. (free_facts g len agi p5.1 has).1.0;
      free_few = λ has. (free_facts g len agi p5.1 has).1.1;
    }

pub agi_sound : (g : Geometry) (group : ℕ) (bytes : List ℕ) → is_agi g group bytes ≡ true → IsSoundAgi g group (agi_in bytes)
agi_sound g group bytes h = agi_facts g group (agi_in bytes) (and_parts _ (fits_agi g group (agi_in bytes)) h).1
