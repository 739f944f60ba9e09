-- One step back from a place of a text: to an earlier text, or to what the command brought.
use Rattle.std.specs.Prelude.{◌≡◌, ℕ, ◌+◌, ◌-◌, ◌<◌, ◌≤◌, Option, Some, None, take, drop}
use Rattle.std.specs.Option.{option_map}
use Rattle.command_parts.specs.declared.part.Part.{Part}
use Rattle.command_parts.specs.Parts.{part_at}
use Rattle.image_reader.specs.Value.{ImageValue}
use Rattle.byte_origins.specs.declared.run.OriginRun.{OriginRun}
use Rattle.byte_origins.specs.declared.run.Brought.{Brought}
use Rattle.byte_origins.specs.declared.run.Brought.TheVariants.{Pool, Source, Fill}
use Rattle.byte_origins.specs.declared.taking.CameFrom.{CameFrom}
use Rattle.byte_origins.specs.declared.taking.CameFrom.TheVariants.{FromText, Run}
use Rattle.byte_origins.specs.EarlierTexts.{len_of_text, texts_parts}
use Rattle.byte_origins.specs.Origins.{origins_at, IsOriginRun}

-- the bytes at a place of text k have the origins of n bytes of text j from p on
pub record IsFromText (v : ImageValue) (k place j p n : ℕ) : Type 0 where
  pub earlier : j < k
  pub some : 1 ≤ n
  pub inside : p + n ≤ len_of_text v j
  pub fits : place + n ≤ len_of_text v k
  pub same : take n (drop place (origins_at v k)) ≡ take n (drop p (origins_at v j))

-- the bytes at a place of text k have the origins of this run
pub record IsBrought (v : ImageValue) (k place : ℕ) (run : OriginRun) : Type 0 where
  pub fits : place + run.len ≤ len_of_text v k
  pub is_run : IsOriginRun (origins_at v k) place run

-- how many bytes came from one place
abbrev pub came_len : CameFrom → ℕ
came_len (FromText j p n) = n
came_len (Run run) = run.len

-- what stands at a place of text k
abbrev pub IsStepBack : ImageValue → ℕ → ℕ → CameFrom → Type 0
IsStepBack v k place (FromText j p n) = IsFromText v k place j p n
IsStepBack v k place (Run run) = IsBrought v k place run

-- len bytes that text k's command brought, the first of them at this place
abbrev pub run_of : ℕ → ℕ → Brought → ℕ → CameFrom
run_of k place brought len = Run record { first = record { revision = k; place = place; brought = brought }; len = len }

-- what a place of text k is that stands off bytes inside a part of it
abbrev pub taken_of : ℕ → ℕ → Part → ℕ → CameFrom
taken_of k place (Part.Old None i n) off = FromText 0 (i + off) (n - off)
taken_of k place (Part.Old (Some j) i n) off = FromText j.0 (i + off) (n - off)
taken_of k place (Part.Pool a n) off = run_of k place (Pool (a + off)) (n - off)
taken_of k place (Part.Source s n) off = run_of k place (Source s off) (n - off)
taken_of k place (Part.Fill c n) off = run_of k place (Fill c) (n - off)

-- one step back from a place of text k, as far as the part of its command goes that holds the place
abbrev pub step_back : ImageValue → ℕ → ℕ → Option CameFrom
step_back v k place = option_map (λ (x : Part × ℕ). taken_of k place x.0 x.1) (part_at (texts_parts v k) place)

-- n bytes of a text from a place on came in together: they stand in one part of its command, and where that part is of
-- an earlier text, they came in together there
pub data CameTogether (v : ImageValue) (n : ℕ) : ℕ → ℕ → Type 0 where
  in_run : {k place : ℕ} (run : OriginRun) → step_back v k place ≡ Some (Run run) → n ≤ run.len → CameTogether v n k place
  in_text : {k place : ℕ} (j p m : ℕ) → step_back v k place ≡ Some (FromText j p m) → n ≤ m → CameTogether v n j p
      → CameTogether v n k place

-- the run of origins at a place of text k, as far as its bytes came in together
pub record IsOriginAt (v : ImageValue) (k place : ℕ) (run : OriginRun) : Type 0 where
  pub is_run : IsOriginRun (origins_at v k) place run
  pub together : CameTogether v run.len k place
  pub longest : (n : ℕ) → CameTogether v n k place → n ≤ run.len
