use Rattle.std.proofs.Common.{◌≡◌, ◌+◌, ◌++◌, [], ◌∷◌, List, length, ap, ◌∙◌, arith}
use Rattle.std.proofs.lemmas.List.{length-append}
use Rattle.byte_origins.specs.declared.run.Origin.{Origin}
use Rattle.byte_origins.specs.declared.arrivals.Arrival.{Arrival}
use Rattle.byte_origins.specs.Arrivals.{arrived}
use Rattle.byte_origins.specs.Origins.{run_origins}
use Rattle.byte_origins.proofs.RunOrigins.{length-run}
use Rattle.byte_origins.proofs.ArrivedRuns.{push_arrived, push_arrival}
use Rattle.byte_origins.proofs.arrivals.Arrivals.push.Goals as goal

pub invariant_of-self-2 : goal.invariant_of-self-2
invariant_of-self-2 c =
    let xs = c.self.inside.list.items in
    let x : Arrival = record { before = c.self.inside.count; run = c.args.run } in
    let items : c.push.new.self.items ≡ xs ++ x ∷ [] = c.in_ok-push.ensures.items in
    let longer : length (arrived (xs ++ x ∷ [])) ≡ length (arrived xs) + c.args.run.len =
    ap (λ (os : List Origin). length os) (push_arrived xs x) ∙ length-append (arrived xs) (run_origins c.args.run) ∙ ap (λ n. length (arrived xs) + n) (length-run c.args.run) in
    rw items (push_arrival 0 xs x c.self.invariant.0 (omega (arith, c.self.invariant.1)) c.requires.fits, omega (arith, longer, c.self.invariant.1))
