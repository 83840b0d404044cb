-- The kinds of content exclude one another.
use Rattle.std.proofs.Common.{◌≡◌, ℕ, Bool, true, false, List, refl, sym, ap, ◌∙◌, inl, inr, arith}
use Rattle.std.proofs.lemmas.Bool.{false≢true}
use Rattle.volume_content.specs.Inner.{IsInner, has_xfs_magic}
use Rattle.volume_content.specs.Laws.{IsAlike}
use Rattle.volume_content.specs.declared.content.Inner.{Inner}
use Rattle.volume_content.specs.declared.content.Inner.TheVariants.{Xfs, Swap, Unread}
use Rattle.volume_content.specs.declared.content.Why.TheVariants as why
use Rattle.xfs_check.proofs.Excluded.{no_reason}
use Rattle.xfs_check.specs.Frame.{volume_on}

not_both : (b : Bool) → b ≡ true → b ≡ false → ⊥
not_both b p q = false≢true (sym q ∙ p)

pub is_alike : (sectors : ℕ) (image : List ℕ) (one other : Inner) → IsInner sectors image one → IsInner sectors image other → IsAlike one other
is_alike sectors image (Xfs v) (Xfs w) p q = ap Xfs (q.2 ∙ sym p.2)
is_alike sectors image (Xfs v) (Swap t) p q = absurd (not_both (has_xfs_magic image) p.0 q.0)
is_alike sectors image (Xfs v) (Unread why.Other) p q = absurd (not_both (has_xfs_magic image) p.0 q.0)
is_alike sectors image (Xfs v) (Unread (why.Xfs r)) p q = absurd (no_reason sectors (volume_on image) r p.1 q.1)
is_alike sectors image (Xfs v) (Unread why.Swap) p q = absurd (not_both (has_xfs_magic image) p.0 q.0)
is_alike sectors image (Swap s) (Xfs w) p q = absurd (not_both (has_xfs_magic image) q.0 p.0)
is_alike sectors image (Swap s) (Swap t) p q = ap Swap (q.4 ∙ sym p.4)
is_alike sectors image (Swap s) (Unread why.Other) p q = elim q.1 [ inl few ↦ absurd (omega (arith, few, p.1)) | inr none ↦ absurd (none p.2) ]
is_alike sectors image (Swap s) (Unread (why.Xfs r)) p q = absurd (not_both (has_xfs_magic image) q.0 p.0)
is_alike sectors image (Swap s) (Unread why.Swap) p q = absurd (q.3 p.3)
is_alike sectors image (Unread why.Other) (Xfs w) p q = absurd (not_both (has_xfs_magic image) q.0 p.0)
is_alike sectors image (Unread why.Other) (Swap t) p q = elim p.1 [ inl few ↦ absurd (omega (arith, few, q.1)) | inr none ↦ absurd (none q.2) ]
is_alike sectors image (Unread why.Other) (Unread why.Other) p q = refl
is_alike sectors image (Unread why.Other) (Unread (why.Xfs r)) p q = absurd (not_both (has_xfs_magic image) q.0 p.0)
is_alike sectors image (Unread why.Other) (Unread why.Swap) p q = elim p.1 [ inl few ↦ absurd (omega (arith, few, q.1)) | inr none ↦ absurd (none q.2) ]
is_alike sectors image (Unread (why.Xfs r)) (Xfs w) p q = absurd (no_reason sectors (volume_on image) r q.1 p.1)
is_alike sectors image (Unread (why.Xfs r)) (Swap t) p q = absurd (not_both (has_xfs_magic image) p.0 q.0)
is_alike sectors image (Unread (why.Xfs r)) (Unread why.Other) p q = absurd (not_both (has_xfs_magic image) p.0 q.0)
is_alike sectors image (Unread (why.Xfs r)) (Unread (why.Xfs r')) p q = tt
is_alike sectors image (Unread (why.Xfs r)) (Unread why.Swap) p q = absurd (not_both (has_xfs_magic image) p.0 q.0)
is_alike sectors image (Unread why.Swap) (Xfs w) p q = absurd (not_both (has_xfs_magic image) q.0 p.0)
is_alike sectors image (Unread why.Swap) (Swap t) p q = absurd (p.3 q.3)
is_alike sectors image (Unread why.Swap) (Unread why.Other) p q = elim q.1 [ inl few ↦ absurd (omega (arith, few, p.1)) | inr none ↦ absurd (none p.2) ]
is_alike sectors image (Unread why.Swap) (Unread (why.Xfs r)) p q = absurd (not_both (has_xfs_magic image) q.0 p.0)
is_alike sectors image (Unread why.Swap) (Unread why.Swap) p q = refl
is_alike sectors image (Xfs v) (Unread why.NoGroup) p q = absurd q
is_alike sectors image (Xfs v) (Unread (why.Ring f)) p q = absurd q
is_alike sectors image (Xfs v) (Unread (why.Text f)) p q = absurd q
is_alike sectors image (Xfs v) (Unread (why.Group f)) p q = absurd q
is_alike sectors image (Swap s) (Unread why.NoGroup) p q = absurd q
is_alike sectors image (Swap s) (Unread (why.Ring f)) p q = absurd q
is_alike sectors image (Swap s) (Unread (why.Text f)) p q = absurd q
is_alike sectors image (Swap s) (Unread (why.Group f)) p q = absurd q
is_alike sectors image (Unread why.Other) (Unread why.NoGroup) p q = absurd q
is_alike sectors image (Unread why.Other) (Unread (why.Ring f)) p q = absurd q
is_alike sectors image (Unread why.Other) (Unread (why.Text f)) p q = absurd q
is_alike sectors image (Unread why.Other) (Unread (why.Group f)) p q = absurd q
is_alike sectors image (Unread (why.Xfs r)) (Unread why.NoGroup) p q = absurd q
is_alike sectors image (Unread (why.Xfs r)) (Unread (why.Ring f)) p q = absurd q
is_alike sectors image (Unread (why.Xfs r)) (Unread (why.Text f)) p q = absurd q
is_alike sectors image (Unread (why.Xfs r)) (Unread (why.Group f)) p q = absurd q
is_alike sectors image (Unread why.Swap) (Unread why.NoGroup) p q = absurd q
is_alike sectors image (Unread why.Swap) (Unread (why.Ring f)) p q = absurd q
is_alike sectors image (Unread why.Swap) (Unread (why.Text f)) p q = absurd q
is_alike sectors image (Unread why.Swap) (Unread (why.Group f)) p q = absurd q
is_alike sectors image (Unread why.NoGroup) (Xfs v) p q = absurd p
is_alike sectors image (Unread why.NoGroup) (Swap s) p q = absurd p
is_alike sectors image (Unread why.NoGroup) (Unread cause) p q = absurd p
is_alike sectors image (Unread (why.Ring f)) (Xfs v) p q = absurd p
is_alike sectors image (Unread (why.Ring f)) (Swap s) p q = absurd p
is_alike sectors image (Unread (why.Ring f)) (Unread cause) p q = absurd p
is_alike sectors image (Unread (why.Text f)) (Xfs v) p q = absurd p
is_alike sectors image (Unread (why.Text f)) (Swap s) p q = absurd p
is_alike sectors image (Unread (why.Text f)) (Unread cause) p q = absurd p
is_alike sectors image (Unread (why.Group f)) (Xfs v) p q = absurd p
is_alike sectors image (Unread (why.Group f)) (Swap s) p q = absurd p
is_alike sectors image (Unread (why.Group f)) (Unread cause) p q = absurd p
