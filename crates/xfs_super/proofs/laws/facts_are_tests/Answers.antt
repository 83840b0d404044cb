use Rattle.xfs_super.proofs.Laid.{groups_from_test, test_from_groups, log_from_test, test_from_log}
use Rattle.xfs_super.proofs.laws.facts_are_tests.Goals as goal

pub returns : goal.returns
returns c = record {
  groups = test_from_groups;
  groups_back = groups_from_test;
  log = test_from_log;
  log_back = log_from_test;
}
