use Rattle.std.proofs.Common.{refl, subst, sym}
use Rattle.lazy_file.specs.SourceTexts.{AreSizes, Stated}
use Rattle.cord_types.specs.HeldTexts.{stated_as_held}
use Rattle.cord_types.proofs.CheckedImages.{accepted_checks, image_again, none_checks, refused_checks}
use Rattle.cord_types.proofs.check.checked.Goals as goal

pub returns-in-Err : goal.returns-in-Err
returns-in-Err c = record {
  judges = none_checks c.args.image.now (stated_as_held c.args.sources.now) c.of_sources.result c.in-Err.fault
      (λ sizes. let e = c.in-Err.ensures.ok.1 sizes in absurd cc) c.in-Err.ensures.fault c.of_sources.ensures;
  image = tt;
}

pub returns-in-Ok-check : goal.returns-in-Ok-check
returns-in-Ok-check c =
    let sizes : AreSizes c.in-Ok.held.sizes = subst (λ (y : Stated). AreSizes y.sizes) (sym c.in-Ok.ensures.value) (c.in-Ok.ensures.ok.0 refl) in
    record {
      judges = accepted_checks c.args.image.now c.in-Ok.held (stated_as_held c.args.sources.now) c.in-Ok-check.checked c.of_image.result c.in-Ok.ensures.value sizes
          c.in-Ok-check.ensures.faithful c.in-Ok-check.ensures.image c.in-Ok-check.ensures.sources c.in-Ok-check.ensures.accepted c.in-Ok-check.ensures.exact c.of_image.ensures;
      image = sym (image_again c.args.image.now c.in-Ok-check.checked c.in-Ok-check.ensures.image.0 c.in-Ok-check.ensures.image.1);
    }

pub returns-in-Err-check : goal.returns-in-Err-check
returns-in-Err-check c =
    let sizes : AreSizes c.in-Ok.held.sizes = subst (λ (y : Stated). AreSizes y.sizes) (sym c.in-Ok.ensures.value) (c.in-Ok.ensures.ok.0 refl) in
    record {
      judges = refused_checks c.args.image.now c.in-Ok.held c.check.new.sources (stated_as_held c.args.sources.now) c.in-Err-check.fault c.of_fault.result c.in-Ok.ensures.value sizes
          c.in-Err-check.ensures.refused c.in-Err-check.ensures.reads c.in-Err-check.ensures.exact c.in-Err-check.ensures.always c.of_fault.ensures;
      image = tt;
    }
