use Rattle.std.proofs.Common.{ℕ, List, leb, leb-true, rules}
use Rattle.std.specs.List.Sorted.{IsPartitionedBy}
use Rattle.std.proofs.lemmas.Bool.{leb-false}
use Rattle.std.proofs.lemmas.List.Sorted.{IsPartitionPoint-from_clause, IsPartitionedBy-leb}
use Rattle.byte_origins.specs.declared.arrivals.Arrival.{Arrival}
use Rattle.byte_origins.specs.Arrivals.{AreArrivals}
use Rattle.byte_origins.proofs.ArrivedRuns.{starts_rise}
use Rattle.byte_origins.proofs.arrivals.count_begun.Goals as goal

parted : (xs : List Arrival) (place : ℕ) → AreArrivals 0 xs → IsPartitionedBy (λ x. leb x.before place) xs
parted xs place h = IsPartitionedBy-leb (λ x. x.before) xs place (λ i j d l m. starts_rise 0 xs i j d h l m)

pub returns-clause-begun : goal.returns-clause-begun
returns-clause-begun c =
    let place = c.args.place in
    let cut = IsPartitionPoint-from_clause (λ x. leb x.before place) _ _ c.partition_point.ensures.partitioned (parted _ place c.requires) (λ a r q k. search rules) in
    λ k d from to. leb-true _ _ (cut.0 k d from to)

pub returns-clause-behind : goal.returns-clause-behind
returns-clause-behind c =
    let place = c.args.place in
    let cut = IsPartitionPoint-from_clause (λ x. leb x.before place) _ _ c.partition_point.ensures.partitioned (parted _ place c.requires) (λ a r q k. search rules) in
    λ k d from to. leb-false _ _ (cut.1 k d from to)
