use Rattle.span_descent.proofs.way.Ways.forget.Goals as goal

pub returns : goal.returns
returns g c = λ t sound true_records. record {
  part = record { sound = sound; true_records = true_records; keeps = c.forget.ensures t };
  root = record { sound = sound; true_records = true_records; keeps = c.forget-2.ensures t };
}
