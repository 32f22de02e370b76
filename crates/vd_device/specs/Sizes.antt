-- How much memory a device has.
use Rattle.std.specs.Prelude.{◌≡◌, ◌*◌, ◌/◌, ◌<◌, ◌≤◌}
use Rattle.vd_model.specs.Setting.{Setting}
use Rattle.vd_device.specs.declared.sizes.Sizes.{Sizes}

-- sizes that a device can have: whole pages, two at least, and more I/O memory than bounce memory
pub record AreFit (sizes : Sizes) : Type 0 where
  pub some : 0 < sizes.per_page
  pub few : sizes.per_page ≤ 16
  pub whole : sizes.bounce ≡ sizes.per_page * (sizes.bounce / sizes.per_page)
  pub low : 2 * sizes.per_page ≤ sizes.bounce
  pub order : sizes.bounce < sizes.iova
  pub small : sizes.iova ≤ 65536

-- a setting has these sizes
pub record IsSized (x : Setting) (sizes : Sizes) : Type 0 where
  pub bounce : x.bounce ≡ sizes.bounce
  pub iova : x.iova ≡ sizes.iova
  pub per_page : x.per_page ≡ sizes.per_page
