pub mod EventSound
