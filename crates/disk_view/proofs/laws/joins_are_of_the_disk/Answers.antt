use Rattle.disk_view.specs.inside.Lengths.{whole_join}
use Rattle.disk_view.proofs.Counts.{total_fits}
use Rattle.disk_view.proofs.Places.{lone_join, sector_of_join, place_in_one, place_within, places_follow, places_differ}
use Rattle.disk_view.proofs.laws.joins_are_of_the_disk.Goals as goal

pub returns : goal.returns
returns c =
    record {
      sum = whole_join;
      lone = lone_join;
      sectors = sector_of_join;
      in_runs = place_in_one;
      on_disk = place_within;
      follow = places_follow;
      differ = places_differ;
      fits = total_fits;
    }
