-- Against a log that was ended by an unmount no reason speaks.
use Rattle.std.proofs.Common.{◌≡◌, ℕ, true, ◌==◌, ◌&&◌, ◌||◌, nat_lt, List, sym, subst, arith, inl, inr}
use Rattle.std.proofs.lemmas.Bool.{cases_eq}
use Rattle.std.proofs.lemmas.Bool.Decides.{nat_tests}
use Rattle.xfs_super.specs.declared.reason.Reason.{Reason}
use Rattle.xfs_super.specs.declared.reason.Reason.TheVariants as why
use Rattle.xfs_log.specs.Log.{log_sector, record_cycle, IsNewestRecord, IsWholeUnmount, IsCleanLog, SpeaksAgainstLog}

both_older : (a b j k : ℕ) → (nat_lt a b || (a == b && nat_lt j k)) ≡ true → (nat_lt b a || (b == a && nat_lt k j)) ≡ true → ⊥
both_older a b j k one other = grind (arith, nat_tests)

one_newest : (sectors : List (List ℕ)) (j k : ℕ) → IsNewestRecord sectors j → IsNewestRecord sectors k → j ≡ k
one_newest sectors j k one other =
    elim (cases_eq j k) [
      | inl same ↦ same
      | inr apart ↦ absurd (both_older (record_cycle (log_sector sectors j)) (record_cycle (log_sector sectors k)) j k (other.newest j one.begins apart) (one.newest k other.begins (λ e. apart (sym e))))
    ]

pub no_reason : (sectors : List (List ℕ)) (reason : Reason) → IsCleanLog sectors → SpeaksAgainstLog sectors reason → ⊥
no_reason sectors why.LogShape clean due = due clean.newest clean.is_newest.begins
no_reason sectors why.DirtyLog clean due = due.other (subst (IsWholeUnmount sectors) (one_newest sectors clean.newest due.newest clean.is_newest due.is_newest) clean.unmounted)
no_reason sectors why.Geometry clean due = due
no_reason sectors why.Feature clean due = due
no_reason sectors why.Reflink clean due = due
no_reason sectors why.ReverseMap clean due = due
no_reason sectors why.RealTime clean due = due
no_reason sectors why.ExternalLog clean due = due
no_reason sectors why.NeedsRepair clean due = due
no_reason sectors why.InProgress clean due = due
no_reason sectors (why.Checksum n) clean due = due
no_reason sectors (why.Header n) clean due = due
no_reason sectors (why.Tree g b) clean due = due
no_reason sectors (why.FreeTreesDiffer g) clean due = due
no_reason sectors (why.FreeCount g stored found) clean due = due
no_reason sectors (why.Inode n) clean due = due
no_reason sectors (why.Extent n) clean due = due
no_reason sectors (why.Directory n b) clean due = due
no_reason sectors (why.ClaimedTwice n) clean due = due
