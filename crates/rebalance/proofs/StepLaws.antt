-- Steps one after the other.
use Rattle.std.proofs.Common.{ℕ, ◌≤◌, length, map, None, Result, Ok, Err, refl, ◌∙◌, arith, length-append}
use Rattle.std.proofs.lemmas.List.{get_or_append_left}
use Rattle.std.specs.Prelude.{IfOk}
use Rattle.rope_node.proofs.Ropes.{extends_itself, extends_through}
use Rattle.node_table.specs.declared.fault.NodeFault.{NodeFault}
use Rattle.node_table.specs.declared.fault.NodeFault.TheVariants.{TooLong, TooDeep, TableFull, PoolFull, BadSpan, TooManySources, Memory}
use Rattle.node_table.specs.Held.{Held, table_of, function_of_record, KeepsFunctions}
use Rattle.rope_store.specs.Additions.{Addition, after}
use Rattle.rebalance.specs.Steps.{IsStepFault, Grows, Steps}

pub functions_itself : {F : Type 0} (h : Held F) → KeepsFunctions h h
functions_itself h = record { same = λ id lt. refl; more = omega arith }

pub functions_through : {F : Type 0} {a b c : Held F} → KeepsFunctions a b → KeepsFunctions b c → KeepsFunctions a c
functions_through x y = record { same = λ id lt. y.same id (omega (arith, x.more)) ∙ x.same id lt; more = omega (arith, x.more, y.more) }

pub functions_after : {F : Type 0} (h : Held F) (a : Addition F) → KeepsFunctions h (after h a)
functions_after h a = record {
  same = λ id lt. get_or_append_left h.functions (map function_of_record a.records) None id lt;
  more = omega (arith, length-append h.functions (map function_of_record a.records));
}

pub grows_itself : {F : Type 0} (meaning : F → ℕ → ℕ) (h : Held F) (nodes bytes : ℕ) → length h.nodes ≤ nodes → length h.pool.bytes ≤ bytes → Grows meaning h nodes bytes h
grows_itself meaning h nodes bytes n b = record { kept = extends_itself (table_of meaning h); sources = refl; functions = functions_itself h; few_nodes = n; few_bytes = b }

pub grows_through : {F : Type 0} {meaning : F → ℕ → ℕ} {a b c : Held F} {n1 b1 n2 b2 nodes bytes : ℕ} → Grows meaning a n1 b1 b → Grows meaning b n2 b2 c → length c.nodes ≤ nodes → length c.pool.bytes ≤ bytes → Grows meaning a nodes bytes c
grows_through {meaning = meaning} {a = a} {b = b} {c = c} x y n m = record {
  kept = extends_through (table_of meaning a) (table_of meaning b) (table_of meaning c) x.kept y.kept;
  sources = y.sources ∙ x.sources;
  functions = functions_through x.functions y.functions;
  few_nodes = n;
  few_bytes = m;
}

pub fault_within : (n1 b1 n2 b2 : ℕ) (e : NodeFault) → n1 ≤ n2 → b1 ≤ b2 → IsStepFault n1 b1 e → IsStepFault n2 b2 e
fault_within n1 b1 n2 b2 TooLong n b h = absurd h
fault_within n1 b1 n2 b2 TooDeep n b h = absurd h
fault_within n1 b1 n2 b2 TableFull n b h = omega (arith, n, h)
fault_within n1 b1 n2 b2 PoolFull n b h = omega (arith, b, h)
fault_within n1 b1 n2 b2 BadSpan n b h = absurd h
fault_within n1 b1 n2 b2 TooManySources n b h = absurd h
fault_within n1 b1 n2 b2 Memory n b h = tt

-- a step that is refused, behind what was done before it
pub refused_through : {F : Type 0} {A B : Type 0} {meaning : F → ℕ → ℕ} {a b c : Held F} {n1 b1 n2 b2 nodes bytes : ℕ} (e : NodeFault) → Grows meaning a n1 b1 b → Steps {A = A} meaning b n2 b2 (Err e) c → n2 ≤ nodes → b2 ≤ bytes → Steps {A = B} meaning a nodes bytes (Err e) c
refused_through {meaning = meaning} {a = a} {b = b} {c = c} {n2 = n2} {b2 = b2} {nodes = nodes} {bytes = bytes} e x y n m = record {
  grows = grows_through x y.grows (omega (arith, n, y.grows.few_nodes)) (omega (arith, m, y.grows.few_bytes));
  fault = fault_within n2 b2 nodes bytes e n m y.fault;
  full = y.full;
}

-- a step behind what was done before it
pub steps_after : {F : Type 0} {A : Type 0} {meaning : F → ℕ → ℕ} {a b c : Held F} {n1 b1 n2 b2 nodes bytes : ℕ} (result : Result A NodeFault) → Grows meaning a n1 b1 b → Steps {A = A} meaning b n2 b2 result c → n2 ≤ nodes → b2 ≤ bytes → Steps {A = A} meaning a nodes bytes result c
steps_after {n2 = n2} {b2 = b2} {nodes = nodes} {bytes = bytes} (Ok x) g y n m = record {
  grows = grows_through g y.grows (omega (arith, n, y.grows.few_nodes)) (omega (arith, m, y.grows.few_bytes));
  fault = tt;
  full = tt;
}
steps_after {n2 = n2} {b2 = b2} {nodes = nodes} {bytes = bytes} (Err e) g y n m = refused_through e g y n m

pub ok_map : {A E : Type 0} {P Q : A → Type 0} (result : Result A E) → ((a : A) → P a → Q a) → IfOk result P → IfOk result Q
ok_map (Ok x) f h = f x h
ok_map (Err e) f h = tt

pub grows_within : {F : Type 0} {meaning : F → ℕ → ℕ} {a b : Held F} {n1 b1 nodes bytes : ℕ} → Grows meaning a n1 b1 b → n1 ≤ nodes → b1 ≤ bytes → Grows meaning a nodes bytes b
grows_within g n m = record { kept = g.kept; sources = g.sources; functions = g.functions; few_nodes = omega (arith, n, g.few_nodes); few_bytes = omega (arith, m, g.few_bytes) }
