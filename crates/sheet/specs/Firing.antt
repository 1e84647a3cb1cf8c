-- A firing as its sheet records it, by name, in document 01's units: temperatures 0.1 °C, masses 0.1 kg, gas 0.1 m³. Nothing is computed here.
use Rattle.std.specs.Prelude.{List, ℤ}
use Rattle.std.proofs.Math.Option.{Option}

-- material 0..18; c in 0.0001 kJ/(kg·°C), which counts for material 0 only
pub record Stuff : Type 0 where
  pub material : ℤ
  pub c : ℤ

-- heating value in kJ/m³
pub record Fuel : Type 0 where
  pub heating : ℤ
  pub temperature : ℤ

-- shares in 0.01 %
pub record Gas : Type 0 where
  pub h2 : ℤ
  pub n2 : ℤ
  pub co : ℤ
  pub o2 : ℤ
  pub h2o : ℤ
  pub co2 : ℤ
  pub ch4 : ℤ
  pub c2h4 : ℤ
  pub c2h6 : ℤ
  pub c3h8 : ℤ
  pub c4h10 : ℤ
  pub h2s : ℤ
  pub so2 : ℤ

pub record Ware : Type 0 where
  pub green : ℤ
  pub entry : ℤ
  pub highest : ℤ
  pub stuff : Stuff

pub record Water : Type 0 where
  pub adsorbed : ℤ
  pub crystal : ℤ
  pub flue : ℤ

-- what an analyser says of dry flue besides CO: CO2 with SO2, and O2, in 0.01 %
pub record Analysis : Type 0 where
  pub pair : ℤ
  pub oxygen : ℤ

-- excess air in thousandths, CO in dry flue in 0.01 %; the analysis where the sheet has one
pub record Stage : Type 0 where
  pub gas : ℤ
  pub excess : ℤ
  pub flue : ℤ
  pub co : ℤ
  pub analysis : Option Analysis
  pub minutes : ℤ

pub record Setter : Type 0 where
  pub mass : ℤ
  pub entry : ℤ
  pub stuff : Stuff

-- mean temperature before lighting, and the same at firing temperature
pub record Part : Type 0 where
  pub mass : ℤ
  pub stuff : Stuff
  pub before : ℤ
  pub firing : ℤ

-- place 1 roof, 2 wall, 3 floor; area in 0.01 m²
pub record Section : Type 0 where
  pub number : ℤ
  pub place : ℤ
  pub area : ℤ

-- a reading: the section's number, the stage's from 1, the surface and the air near it
pub record Wall : Type 0 where
  pub section : ℤ
  pub stage : ℤ
  pub surface : ℤ
  pub air : ℤ

-- the edition of its sheet; moisture of the air in 0.0001 kg per kg
pub record Firing : Type 0 where
  pub edition : ℤ
  pub number : ℤ
  pub product : ℤ
  pub ambient : ℤ
  pub fuel : Fuel
  pub gas : Gas
  pub moisture : ℤ
  pub ware : Ware
  pub water : Water
  pub clay : ℤ
  pub stages : List Stage
  pub setters : List Setter
  pub parts : List Part
  pub sections : List Section
  pub walls : List Wall
