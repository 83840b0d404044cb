-- What is printed of a plan that there isn't.
use Rattle.std.specs.Prelude.{ℕ, List, ◌++◌, codes}
use Rattle.std.specs.Fmt.{decimal}
use Rattle.layout_plan.specs.declared.fault.NoPlan.{NoPlan}
use Rattle.layout_plan.specs.declared.fault.NoPlan.TheVariants.{TooSmall, TooLarge, NoSuchPart, NamedTwice, Extended, Empty, WouldCut, DoesNotFit, NoSurplus, NoDeficit, Memory}

abbrev pub no_plan_text : NoPlan → List ℕ
no_plan_text (TooSmall sectors) = codes "TooSmall sectors=" ++ decimal sectors
no_plan_text (TooLarge sectors) = codes "TooLarge sectors=" ++ decimal sectors
no_plan_text (NoSuchPart place) = codes "NoSuchPart place=" ++ decimal place
no_plan_text (NamedTwice place) = codes "NamedTwice place=" ++ decimal place
no_plan_text (Extended place) = codes "Extended place=" ++ decimal place
no_plan_text (Empty part) = codes "Empty part=" ++ decimal part
no_plan_text (WouldCut part content asked) =
    codes "WouldCut part=" ++ (decimal part ++ (codes " content=" ++ (decimal content ++ (codes " wanted=" ++ decimal asked))))
no_plan_text (DoesNotFit last limit) = codes "DoesNotFit end=" ++ (decimal last ++ (codes " limit=" ++ decimal limit))
no_plan_text (NoSurplus limit) = codes "NoSurplus limit=" ++ decimal limit
no_plan_text (NoDeficit last) = codes "NoDeficit end=" ++ decimal last
no_plan_text Memory = codes "Memory"
